-- Numbers behind words are read.
use Rattle.std.proofs.Common.{◌≡◌, ◌≢◌, ℕ, List, [], ◌++◌, sym, ap, ◌∙◌}
use Rattle.std.specs.Prelude.{Option, Some, None, MatchOption, decimal}
use Rattle.std.proofs.lemmas.List.{append-nil, append_cancel_left}
use Rattle.site_messages.specs.Reading.{IsGap, IsWhole}
use Rattle.site_messages.specs.Words.{IsNumber, number_text}
use Rattle.site_messages.specs.declared.gap.Gap.{Gap}
use Rattle.site_messages.proofs.Wholes.{gap_none, rest_is}

behind_is : (line word rest other : List ℕ) → line ≡ word ++ rest → line ≡ word ++ other → rest ≡ other
behind_is line word rest other is e = append_cancel_left word rest other (sym is ∙ e)

pub number_after : (line word rest : List ℕ) (o : Option ℕ) → line ≡ word ++ rest
    → MatchOption o ((n : ℕ) → IsNumber n → rest ≢ decimal n) (λ n. IsNumber n × (rest ≡ decimal n))
    → MatchOption o ((n : ℕ) → IsNumber n → line ≢ word ++ decimal n)
    (λ n. IsNumber n × (line ≡ word ++ decimal n))
number_after line word rest None is h = λ n small e. h n small (behind_is line word rest (decimal n) is e)
number_after line word rest (Some n) is h = (h.0, is ∙ ap (λ (l : List ℕ). word ++ l) h.1)

pub no_first : (line word rest : List ℕ) (gap : Gap) → line ≡ word ++ rest → IsGap IsNumber number_text rest gap
    → (m n : ℕ) → IsNumber m → IsNumber n → line ≢ word ++ (number_text m ++ decimal n)
no_first line word rest gap is h m n small less e =
    gap_none IsNumber number_text rest gap h m (decimal n) small
    (behind_is line word rest (number_text m ++ decimal n) is e)

pub no_second : (line word rest last : List ℕ) (first : ℕ) → line ≡ word ++ rest
    → IsWhole IsNumber number_text rest first last → ((n : ℕ) → IsNumber n → last ≢ decimal n)
    → (m n : ℕ) → IsNumber m → IsNumber n → line ≢ word ++ (number_text m ++ decimal n)
no_second line word rest last first is h none m n small less e =
    let whole = append-nil rest ∙ behind_is line word rest (number_text m ++ decimal n) is e in
    let same = h.only m [] (decimal n) small whole in
    none n less (sym (append-nil last) ∙ rest_is IsNumber number_text rest last [] (decimal n) first m h same whole)

pub both_after : (line word rest last : List ℕ) (first second : ℕ) → line ≡ word ++ rest
    → IsWhole IsNumber number_text rest first last → IsNumber second → last ≡ decimal second
    → IsNumber first × IsNumber second × (line ≡ word ++ (number_text first ++ decimal second))
both_after line word rest last first second is h small e =
    (h.valid, small, is ∙ ap (λ (l : List ℕ). word ++ l) (h.parts ∙ ap (λ (l : List ℕ). number_text first ++ l) e))
