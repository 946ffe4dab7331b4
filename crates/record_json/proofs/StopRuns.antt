-- Octets that a string has as they are.
use Rattle.std.proofs.Common.{◌≡◌, ◌≢◌, ℕ, ◌+◌, ◌<◌, ◌≤◌, Bool, true, false, List, length, get_or, refl, sym, ◌∙◌, arith}
use Rattle.std.specs.Prelude.{Some}
use Rattle.std.proofs.lemmas.Bool.Decides.{nat_tests}
use Rattle.std.proofs.lemmas.Grind.{common_steps}
use Rattle.memchr.specs.Find.{IsFirstByte, Nowhere, Passes}
use Rattle.syslog_fields.specs.Lanes.{IsRunOf}
use Rattle.syslog_fields.proofs.LaneRuns.{nowhere_on, doubly}
use Rattle.record_json.specs.Texts.{IsKept, is_escaped}

pub kept_false : (x : ℕ) → is_escaped x ≡ false → IsKept x
kept_false x e h = let i : false ≡ true = sym e ∙ h in absurd cc

pub kept_true : (x : ℕ) → is_escaped x ≡ true → IsKept x → ⊥
kept_true x e h = h e

not_true : (b : Bool) → ¬ (b ≡ true) → b ≡ false
not_true true h = absurd (h refl)
not_true false h = refl

-- the parts of the test
pub record Kept (x : ℕ) : Type 0 where
  pub no_mark : x ≢ 34
  pub no_backslash : x ≢ 92
  pub no_control : 32 ≤ x

pub kept_is : (x : ℕ) → IsKept x → Kept x
kept_is x h =
    let e : is_escaped x ≡ false = not_true (is_escaped x) h in
    record {
      no_mark = grind (arith, common_steps, nat_tests, e);
      no_backslash = grind (arith, common_steps, nat_tests, e);
      no_control = grind (arith, common_steps, nat_tests, e);
    }

-- the first such octet is where a run before it ends
pub escaped_found : (d : List ℕ) (i r : ℕ) → i + 16 ≤ length d → r < 16 → Nowhere (Passes is_escaped d) 0 i
    → IsRunOf IsKept d i r → IsFirstByte is_escaped d (Some (i + r))
escaped_found d i r room short before run = (
  record {
    low = omega arith;
    high = omega (arith, room, short);
    before = nowhere_on (Passes is_escaped d) i (i + r) before run.each;
  },
  doubly (is_escaped (get_or d (i + r) 0)) (run.ends short),
)
