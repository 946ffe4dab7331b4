-- The numbers by which next entries are compared.
use Rattle.std.proofs.Common.{◌≡◌, ◌∙◌, ℕ, ◌-◌, ◌^◌, ◌<◌, ℤ, pos, negsuc, ◌<ℤ◌, ◌≤ℤ◌, Bool, true, false, if◌then◌else◌}
use Rattle.std.proofs.Common.{Option, Some, None, List, length, map, get_or, take, ◌+◌, refl, sym, ap, subst, inl, inr, true≢false}
use Rattle.std.specs.Prelude.{◌⊎◌}
use Rattle.std.specs.Int.Signed.{<ℤ_irrefl, clash_ℤ}
use Rattle.std.proofs.lemmas.List.{get_or-map}
use Rattle.archive_text.specs.Entries.{Entry, InstantBelow, IsBelow}
use Rattle.archive_streams.specs.Entries.{current}
use Rattle.archive_join.specs.Heads.{IsAt, IsFound, key_of, key_of_instant}
use Rattle.archive_join.specs.declared.head.Head.{Head}
use Rattle.archive_join.specs.declared.heads.Least.{Least}
use Rattle.archive_join.proofs.Leasts.{closed_or_not, found_closed, found_greater}
use Rattle.archive_join.proofs.NextEntries.{at_number}

-- the number at a place is that of the head there
pub key_at : (hs : List Head) (ks : List ℤ) (at : ℕ) (h : Head) → ks ≡ map key_of hs → at < length hs → IsAt hs at h
    → get_or ks at (pos 0) ≡ key_of h
key_at hs ks at h are within is =
    ap (λ (ls : List ℤ). get_or ls at (pos 0)) are ∙ get_or-map key_of hs at h (pos 0) within ∙ ap key_of (sym is)

instants_above : (i j : Option ℤ) → negsuc (2 ^ 63 - 1) ≤ℤ key_of_instant j → key_of_instant j <ℤ key_of_instant i
    → InstantBelow j i
instants_above None None low above = absurd (<ℤ_irrefl above)
instants_above (Some i) None low above = tt
instants_above None (Some j) low above = clash_ℤ above low
instants_above (Some i) (Some j) low above = above

opened : (closed : Bool) (e : Entry) → closed ≡ false
    → (if closed then pos (2 ^ 63 - 1) else key_of_instant e.instant) ≡ key_of_instant e.instant
opened true e off = absurd (true≢false off)
opened false e off = refl

-- where it is greater, the entry is above the other
pub entries_above : (h g : Head) (a b : ℤ) → a ≡ key_of h → b ≡ key_of g → negsuc (2 ^ 63 - 1) ≤ℤ b → b <ℤ a
    → h.closed ≡ false → g.closed ≡ false → IsBelow (current g.entries) (current h.entries)
entries_above h g a b here there low above on also =
    let x : a ≡ key_of_instant (current h.entries).instant = here ∙ opened h.closed (current h.entries) on in
    let y : b ≡ key_of_instant (current g.entries).instant = there ∙ opened g.closed (current g.entries) also in
    inl (instants_above (current h.entries).instant (current g.entries).instant
    (subst (λ (n : ℤ). negsuc (2 ^ 63 - 1) ≤ℤ n) y low)
    (subst (λ (n : ℤ). n <ℤ key_of_instant (current h.entries).instant) y (subst (λ (n : ℤ). b <ℤ n) x above)))

-- one head more, whose number is greater than that of the least
pub found_above : (hs : List Head) (ks : List ℤ) (at : ℕ) (l : Least) → ks ≡ map key_of hs → at < length hs
    → negsuc (2 ^ 63 - 1) ≤ℤ get_or ks l.at (pos 0) → get_or ks l.at (pos 0) <ℤ get_or ks at (pos 0)
    → IsFound hs (take at hs) l → IsFound hs (take (at + 1) hs) l
found_above hs ks at l are within low above f = go (closed_or_not h.0.closed)
  where
    h : (x : Head) × IsAt hs at x
    h = at_number hs at within

    g : (x : Head) × IsAt hs l.at x
    g = at_number hs l.at f.least.within

    go : (h.0.closed ≡ true) ⊎ (h.0.closed ≡ false) → IsFound hs (take (at + 1) hs) l
    go (inl on) = found_closed hs at (Some l) h.0 within h.1 on f
    go (inr off) =
        found_greater hs at l h.0 g.0 (current h.0.entries) (current g.0.entries) within h.1 g.1 off refl refl
        (entries_above h.0 g.0 (get_or ks at (pos 0)) (get_or ks l.at (pos 0)) (key_at hs ks at h.0 are within h.1)
        (key_at hs ks l.at g.0 are f.least.within g.1) low above off (f.least.unclosed g.0 g.1)) f
