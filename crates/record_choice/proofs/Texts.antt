-- The text of frames.
use Rattle.std.proofs.Common.{ℕ, List, [], ◌∷◌, ◌++◌, length, refl, sym, ap, ◌∙◌, arith, append_assoc, inl, inr}
use Rattle.std.specs.Prelude.{decimal}
use Rattle.std.proofs.lemmas.List.{length-append}
use Rattle.octet_language.proofs.Lists.{one_more}
use Rattle.octet_language.specs.Language.{NoPrefix}
use Rattle.syslog_frame.specs.Frames.{Whole}
use Rattle.syslog_frame.specs.declared.framing.Framing.TheVariants.{Counted}
use Rattle.syslog_frame.proofs.FrameLaws.{same_count}
use Rattle.archive_text.specs.Faults.{IsBadFrame}

-- where a frame cannot be whole yet, or never, no prefix is a whole frame
pub no_whole : (most n : ℕ) (text : List ℕ) → IsBadFrame most text n → NoPrefix (Whole Counted) text
no_whole most n text (inl (none, offset)) p s is (frame, (carries, form)) =
    none (decimal (length frame) ++ 32 ∷ []) (frame ++ s)
    (is ∙ ap (λ (xs : List ℕ). xs ++ s) form ∙ append_assoc (decimal (length frame)) (32 ∷ frame) s
    ∙ sym (one_more (decimal (length frame)) 32 (frame ++ s)))
    (length frame, (carries.0, carries.1, refl))
no_whole most n text (inr (count, behind, (t, whole, (some, small, digits)), low, cut, at)) p s is (frame, (carries, form)) =
    let both = same_count count (length frame) behind (frame ++ s) small carries.1
    (sym (one_more (decimal count) 32 behind) ∙ ap (λ (xs : List ℕ). xs ++ behind) (sym digits) ∙ sym whole ∙ is
    ∙ ap (λ (xs : List ℕ). xs ++ s) form ∙ append_assoc (decimal (length frame)) (32 ∷ frame) s) in
    omega (arith, cut, both.0, ap length both.1, length-append frame s)
