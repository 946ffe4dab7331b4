-- Where names end and stop.
use Rattle.std.proofs.Common.{ℕ, List, [], ◌∷◌, refl, sym, subst, arith}
use Rattle.octet_language.specs.Language.{Language, ◌⋅◌, AnyOf, IsPrefixFree}
use Rattle.octet_language.specs.Reading.{Fails}
use Rattle.syslog_value.specs.Parts.{IsNameOctet}
use Rattle.syslog_fields.specs.Grammar.{Name}
use Rattle.syslog_fields.specs.Spans.{IsRun, StopsInRun}
use Rattle.syslog_fields.proofs.Ahead.{OneAhead, StartsIn}
use Rattle.syslog_fields.proofs.Classes.{Ends, AreRuns, OneAhead-runs, Fails-run}

-- what ends a name
abbrev pub EndsName : ℕ → Type 0
EndsName = Ends IsNameOctet

pub names : AreRuns IsNameOctet 32 (AnyOf Name)
names = record {
  to = λ b (w, (h, e)). subst (IsRun IsNameOctet 32) (sym e)
      (record { some = h.some; fits = h.fits; octets = h.octets });
  from = λ b h. (b, (record { some = h.some; fits = h.fits; octets = h.octets }, refl));
}

pub OneAhead-name : OneAhead (AnyOf Name) EndsName
OneAhead-name = OneAhead-runs IsNameOctet 32 (AnyOf Name) names

letter_octet : IsNameOctet 97
letter_octet = ((omega arith, omega arith), λ e. omega (arith, e), λ e. omega (arith, e), λ e. omega (arith, e))

pub letter : AnyOf Name (97 ∷ [])
letter = (97 ∷ [], (record { some = omega arith; fits = omega arith; octets = (letter_octet, tt) }, refl))

-- a name that is not whole, whatever ends it
pub Fails-name : (B : Language) (b t : List ℕ) (remaining : ℕ) → B t → IsPrefixFree B → StartsIn EndsName B
    → StopsInRun IsNameOctet 32 b remaining → Fails (AnyOf Name ⋅ B) b remaining
Fails-name B b t remaining some one starts f =
    Fails-run IsNameOctet 32 97 (AnyOf Name) B b t remaining names (omega arith) letter_octet some one starts f
