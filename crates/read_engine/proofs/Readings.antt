-- Steps of a reading into a session.
use Rattle.std.proofs.Common.{◌≡◌, Bool, Err, Ok, Option, Result, Some, false, is_ok, subst, true}
use Rattle.std.specs.Prelude.{IfSome, List, MatchResult, ℕ}
use Rattle.driver.specs.Sessions.{Meaning}
use Rattle.driver.specs.declared.stopped.Stopped.{Stopped as Reason}
use Rattle.session_output.specs.Runs.{Ends, Leaves, Outputs}
use Rattle.store_reading.specs.declared.fault.ReadFault.{ReadFault}
use Rattle.read_engine.specs.Readings.{WritesOn}

-- what is so of a beginning that is known
pub at_first : {S : Type 0} (P : S → Type 0) (o : Option S) (x : S) → o ≡ Some x → IfSome o P → P x
at_first P o x is h = subst (λ (p : Option _). IfSome p P) is h

pub where_ok : {A E : Type 0} (r : Result A E) (P Q : Type 0) → is_ok r ≡ true → P → MatchResult r (λ _. P) (λ _. Q)
where_ok (Ok x) P Q is p = p
where_ok (Err e) P Q is p = absurd (let no : false ≡ true = is in cc)

pub where_err : {A E : Type 0} (r : Result A E) (P Q : Type 0) → is_ok r ≡ false → Q → MatchResult r (λ _. P) (λ _. Q)
where_err (Ok x) P Q is q = absurd (let no : true ≡ false = is in cc)
where_err (Err e) P Q is q = q

pub on_ok : (M : Meaning) (old new : Outputs) (text : List ℕ) (reading : Result (Unit {0}) ReadFault)
    (chosen formed : Result Bool Reason) → is_ok reading ≡ true → is_ok chosen ≡ true → Ends M old new text formed
    → WritesOn M old new text reading chosen formed
on_ok M old new text (Ok done) (Ok refused) formed r w e = e
on_ok M old new text (Ok done) (Err stop) formed r w e = absurd (let no : false ≡ true = w in cc)
on_ok M old new text (Err fault) chosen formed r w e = absurd (let no : false ≡ true = r in cc)

pub on_stop : (M : Meaning) (old new : Outputs) (text : List ℕ) (reading : Result (Unit {0}) ReadFault)
    (chosen formed : Result Bool Reason) → is_ok reading ≡ true → is_ok chosen ≡ false → Leaves M old new text formed
    → WritesOn M old new text reading chosen formed
on_stop M old new text (Ok done) (Ok refused) formed r w e = absurd (let no : true ≡ false = w in cc)
on_stop M old new text (Ok done) (Err stop) formed r w e = e
on_stop M old new text (Err fault) chosen formed r w e = e

pub on_fault : (M : Meaning) (old new : Outputs) (text : List ℕ) (reading : Result (Unit {0}) ReadFault)
    (chosen formed : Result Bool Reason) → is_ok reading ≡ false → Leaves M old new text formed
    → WritesOn M old new text reading chosen formed
on_fault M old new text (Ok done) chosen formed r e = absurd (let no : true ≡ false = r in cc)
on_fault M old new text (Err fault) chosen formed r e = e
