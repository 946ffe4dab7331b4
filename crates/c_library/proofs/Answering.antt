-- A text, or why there is none, becomes an answer.
use Rattle.std.proofs.Common.{◌≡◌, ℕ, List, Result, Ok, Err, sym, subst, inl, inr, ◌∙◌}
use Rattle.std.specs.Prelude.{ℤ, MatchResult}
use Rattle.octet_language.specs.Language.{Language}
use Rattle.c_library.specs.Answers.{Answers, HandsOver, Memory, Refused}
use Rattle.c_library.specs.declared.fault.SyslogboxFault.{SyslogboxFault}

pub answered : {T : Type 0} (L : Language) (P : SyslogboxFault → Type 0) (old new : Memory) (answer : ℤ)
    (view : T → List ℕ) (r : Result T SyslogboxFault)
    → MatchResult r (λ v. L (view v)) P
    → MatchResult r (λ v. HandsOver (view v) old new answer) (λ cause. Refused (λ told. told ≡ cause) old new answer)
    → (shown : ℤ) → shown ≡ answer → Answers L P old new shown
answered L P old new answer view (Ok v) h (inl w) shown e = inl (record {
  text = w.text;
  is = subst L (sym w.is) h;
  fits = w.fits;
  length_is = e ∙ w.length_is;
  room = w.room;
  fault = w.fault;
})
answered L P old new answer view (Ok v) h (inr w) shown e = inr (record {
  cause = inr (w.cause.0, subst L (sym w.cause.1) h, w.cause.2, w.cause.3);
  answer_is = e ∙ w.answer_is;
  room = w.room;
})
answered L P old new answer view (Err cause) h w shown e = inr (record {
  cause = inl (subst P (sym w.cause) h);
  answer_is = e ∙ w.answer_is;
  room = w.room;
})
