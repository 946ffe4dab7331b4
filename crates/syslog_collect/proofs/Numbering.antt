-- The connection of a number, where one is changed in its place.
use Rattle.std.proofs.Common.{◌≡◌, ◌≢◌, ℕ, Bool, true, false, cond, eqb, is_some, inl, inr, refl, sym, ◌∙◌, ap, subst}
use Rattle.std.proofs.Common.{arith}
use Rattle.std.specs.Prelude.{Option, Some, None, nat_eq}
use Rattle.std.proofs.lemmas.Bool.{eq-eqb}
use Rattle.std.proofs.lemmas.Bool.Decides.{eqb_tells}
use Rattle.std.specs.HashMap as hash
use Rattle.std.proofs.lemmas.List.Sums.{sum_by-set}
use Rattle.slab.specs.Slab.{Slab, Updates, get, slab_len, with_value}
use Rattle.slab.proofs.SlabLemmas.{ContainsKey-within, Updates-with_value}
use Rattle.syslog_collect.specs.declared.connection.Connection.{Connection}
use Rattle.syslog_collect.specs.declared.connections.Connections.{Connections}
use Rattle.syslog_collect.specs.Numbers.{Becomes, HoldsAt, connection_at, connection_in, numbered}

pick : {A : Type 0} (b : Bool) (u v : A) → b ≡ true → cond b u v ≡ u
pick b u v e = rw e refl

pass : {A : Type 0} (b : Bool) (u v : A) → b ≡ false → cond b u v ≡ v
pass b u v e = rw e refl

has_number : (d : ℕ) (x : Connection) → x.number ≡ d → numbered d (Some x) ≡ Some x
has_number d x e = pick (eqb x.number d) (Some x) None (eq-eqb x.number d e)

has_other : (d : ℕ) (x : Connection) → x.number ≢ d → numbered d (Some x) ≡ None
has_other d x ne = elim (eqb_tells x.number d) [
  | inl h ↦ absurd (ne h.1)
  | inr h ↦ pass (eqb x.number d) (Some x) None h.0
]

-- the places of other numbers have what they had
same_at : (place d : ℕ) (old new : Slab Connection) (slot : Option Connection) (at : Option ℕ)
    → Updates old new place slot → numbered d slot ≡ numbered d (get old place)
    → connection_at new d at ≡ connection_at old d at
same_at place d old new slot None up e = refl
same_at place d old new slot (Some p) up e = elim (eqb_tells p place) [
  | inl here ↦ subst (λ (q : ℕ). numbered d (get new q) ≡ numbered d (get old q)) (sym here.1)
      (ap (numbered d) up.changed ∙ e)
  | inr apart ↦ ap (numbered d) (up.others p apart.1)
]

-- the connection of a number that was found
pub held_at : (cs : Connections) (c place : ℕ) (x : Connection) → HoldsAt cs c place → get cs.slots place ≡ Some x
    → (connection_in cs c ≡ Some x) × (x.number ≡ c)
held_at cs c place x holds is =
    let same : x ≡ holds.connection = some_same x holds.connection (sym is ∙ holds.is) in
    let number : x.number ≡ c = ap (λ (z : Connection). z.number) same ∙ holds.same_number in
    (ap (connection_at cs.slots c) holds.place_is ∙ ap (numbered c) is ∙ has_number c x number, number)
  where
    some_same : (a b : Connection) → Some a ≡ Some b → a ≡ b
    some_same a b e = cc

-- one is another, with the same number
pub become_at : (old new : Connections) (c place : ℕ) (x : Connection) → HoldsAt old c place
    → new.places ≡ old.places → Updates old.slots new.slots place (Some x) → x.number ≡ c
    → (d : ℕ) → connection_in new d ≡ cond (eqb c d) (Some x) (connection_in old d)
become_at old new c place x holds places up number d =
    let at : hash.get nat_eq new.places d ≡ hash.get nat_eq old.places d = ap (λ m. hash.get nat_eq m d) places in
    elim (eqb_tells c d) [
      | inl (same, eq) ↦
          ap (connection_at new.slots d) (at ∙ subst (λ (n : ℕ). hash.get nat_eq old.places n ≡ Some place) eq
          holds.place_is)
          ∙ ap (numbered d) up.changed ∙ has_number d x (number ∙ eq)
          ∙ sym (pick (eqb c d) (Some x) (connection_in old d) same)
      | inr (other, ne) ↦
          ap (connection_at new.slots d) at
          ∙ same_at place d old.slots new.slots (Some x) (hash.get nat_eq old.places d) up
          (has_other d x (λ e. ne (sym number ∙ e))
          ∙ sym (ap (numbered d) holds.is ∙ has_other d holds.connection (λ e. ne (sym holds.same_number ∙ e))))
          ∙ sym (pass (eqb c d) (Some x) (connection_in old d) other)
    ]

-- as many are there as before
count_with : (slots : Slab Connection) (place : ℕ) (x y : Connection) → get slots place ≡ Some x
    → slab_len (with_value slots place y) ≡ slab_len slots
count_with slots place x y is =
    let within = ContainsKey-within slots place (rw is refl) in
    let moved = sum_by-set (λ (o : Option Connection). cond (is_some o) 1 0) slots.slots place (Some y) None within in
    let one : ◌≡◌ {A = ℕ} (cond (is_some (get slots place)) 1 0) 1 = rw is refl in
    omega (arith, moved, one)

-- a connection is changed in its place
pub become_of : (old new : Connections) (c place : ℕ) (x y : Connection) → HoldsAt old c place
    → get old.slots place ≡ Some x → y.number ≡ x.number → new.slots ≡ with_value old.slots place y
    → new.places ≡ old.places → new.limit ≡ old.limit → Becomes old new c y
become_of old new c place x y holds is number slots places limit =
    let up = subst (λ (s : Slab Connection). Updates old.slots s place (Some y)) (sym slots)
    (Updates-with_value old.slots place y (rw is refl)) in
    let now : y.number ≡ c = number ∙ (held_at old c place x holds is).1 in
    let room : new.slots.capacity ≡ old.slots.capacity = ap (λ (s : Slab Connection). s.capacity) slots in
    record {
      at = become_at old new c place y holds places up now;
      count = ap slab_len slots ∙ count_with old.slots place x y is;
      limit = limit;
      room = omega (arith, room);
    }
