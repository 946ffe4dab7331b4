-- One connection among the connections, and its opening among the openings.
use Rattle.std.proofs.Common.{◌≡◌, ℕ, zero, suc, ◌+◌, ◌<◌, true, false, cond, List, [], ◌∷◌, ◌++◌, length, get_or}
use Rattle.std.proofs.Common.{set as set_at, eqb, refl, sym, ◌∙◌, ap, subst, arith, inl, inr}
use Rattle.std.specs.Prelude.{Option, Some, None, IsSome}
use Rattle.std.specs.List.{position_from, remove}
use Rattle.archive_text.specs.Entries.{Entry}
use Rattle.syslog_legacy.specs.declared.frame_reading.FrameReading.{FrameReading}
use Rattle.syslog_collect.specs.declared.connection.Connection.{Connection}
use Rattle.syslog_collect.specs.declared.outcome.Outcome.{Outcome}
use Rattle.syslog_collect.specs.Frames.{AreFramesOf, IsFramesOf, all_of}
use Rattle.syslog_collect.specs.History.{Stream, with_piece, with_octets, stream_of, streams_of, without}
use Rattle.syslog_collect.specs.Outcomes.{AreReported}
use Rattle.syslog_collect.specs.Standing.{AreAt, IsAt}
use Rattle.syslog_collect.proofs.Gains.{Joins, joins_after, joins_append, joins_before, spelled_after, spelled_before}
use Rattle.syslog_collect.proofs.Gains.{spelled_either}

-- the first connection of the number is the i-th
abbrev pub AtPlace : ℕ → List Connection → ℕ → Connection → Type 0
AtPlace c [] i x = ⊥
AtPlace c (l ∷ ls) zero x = (l ≡ x) × (eqb l.number c ≡ true)
AtPlace c (l ∷ ls) (suc i) x = (eqb l.number c ≡ false) × AtPlace c ls i x

abbrev pub place_from : ℕ → ℕ → List Connection → Option ℕ
place_from c n ls = position_from (λ l. eqb l.number c) n ls

pub found_at : (c n m : ℕ) (ls : List Connection) → place_from c n ls ≡ Some m
    → (i : ℕ) × (x : Connection) × (m ≡ n + i) × AtPlace c ls i x
found_at c n m [] e = absurd (cc)
found_at c n m (l ∷ ls) e =
    elim (eqb l.number c) as (λ b. eqb l.number c ≡ b → cond b (Some n) (place_from c (n + 1) ls) ≡ Some m
    → (i : ℕ) × (x : Connection) × (m ≡ n + i) × AtPlace c (l ∷ ls) i x) [
      | true ↦ λ is same. let eq : n ≡ m = cc in (0, l, omega arith, (refl, is))
      | false ↦ λ is later. let there = found_at c (n + 1) m ls later in
          (suc there.0, there.1, omega (arith, there.2), (is, there.3))
    ] refl e

in_range : (c i : ℕ) (x : Connection) (ls : List Connection) → AtPlace c ls i x → i < length ls
in_range c i x [] at = absurd at
in_range c zero x (l ∷ ls) at = omega arith
in_range c (suc i) x (l ∷ ls) at = omega (arith, in_range c i x ls at.1)

pub at_index : (c i : ℕ) (x d : Connection) (ls : List Connection) → AtPlace c ls i x → get_or ls i d ≡ x
at_index c i x d [] at = absurd at
at_index c zero x d (l ∷ ls) at = at.0
at_index c (suc i) x d (l ∷ ls) at = at_index c i x d ls at.1

-- a place that was found is one of the list
pub within : (c n : ℕ) (ls : List Connection) → place_from c 0 ls ≡ Some n → n < length ls
within c n ls is = let there = found_at c 0 n ls is in omega (arith, in_range c there.0 there.1 ls there.3, there.2)

-- the connection at a place that was found
pub found_here : (c n : ℕ) (x : Connection) (ls : List Connection) → place_from c 0 ls ≡ Some n → x ≡ get_or ls n x
    → AtPlace c ls n x
found_here c n x ls is item =
    let there = found_at c 0 n ls is in
    let place : there.0 ≡ n = omega (arith, there.2) in
    let at = subst (λ (m : ℕ). AtPlace c ls m there.1) place there.3 in
    subst (λ (z : Connection). AtPlace c ls n z) (sym (item ∙ at_index c n there.1 x ls at)) at

-- no connection of a number, no opening of it
pub no_stream : (c n : ℕ) (ls : List Connection) (ss : List Stream) (ds : List (List (List ℕ))) → AreAt ls ss ds
    → place_from c n ls ≡ None → stream_of c ss ≡ None
no_stream c n [] [] [] f e = refl
no_stream c n (l ∷ ls) (s ∷ ss) (d ∷ ds) f e =
    elim (eqb l.number c) as (λ b. eqb s.number c ≡ b → cond b (Some n) (place_from c (n + 1) ls) ≡ None
    → cond (eqb s.number c) (Some s) (stream_of c ss) ≡ None) [
      | true ↦ λ same is. absurd (cc)
      | false ↦ λ same is. rw same (no_stream c (n + 1) ls ss ds f.1 is)
    ] (ap (λ (m : ℕ). eqb m c) (sym f.0.number)) e
no_stream c n [] [] (d ∷ ds) f e = absurd f
no_stream c n [] (s ∷ ss) [] f e = absurd f
no_stream c n [] (s ∷ ss) (d ∷ ds) f e = absurd f
no_stream c n (l ∷ ls) [] [] f e = absurd f
no_stream c n (l ∷ ls) [] (d ∷ ds) f e = absurd f
no_stream c n (l ∷ ls) (s ∷ ss) [] f e = absurd f

-- what a connection at an opening does with octets
pub record AdvancesOn (way : FrameReading) (old new : Connection) (kept now : List Entry) (octets : List ℕ)
    (outcomes : List Outcome) (s : Stream) (handled : List (List ℕ)) : Type 0 where
  pub fresh : List (List ℕ)
  pub now_at : IsAt new (with_octets s octets) (handled ++ fresh)
  pub reported : AreReported way kept now fresh outcomes

-- what one connection's octets do to all
pub record Advanced (way : FrameReading) (c : ℕ) (ls : List Connection) (ss : List Stream) (ds : List (List (List ℕ)))
    (kept now : List Entry) (o : List ℕ) (outcomes : List Outcome) : Type 0 where
  pub now_handled : List (List (List ℕ))
  pub fresh : List (List ℕ)
  pub follow : AreAt ls (with_piece c o ss) now_handled
  pub joins : Joins way (all_of now_handled) (all_of ds) fresh
  pub reported : AreReported way kept now fresh outcomes

pub advance_at : (way : FrameReading) (c i : ℕ) (x y : Connection) (ls : List Connection) (ss : List Stream)
    (ds : List (List (List ℕ))) (kept now : List Entry) (o : List ℕ) (outcomes : List Outcome)
    → AreAt ls ss ds → AtPlace c ls i x → ((s : Stream) (d : List (List ℕ)) → IsAt x s d
    → AdvancesOn way x y kept now o outcomes s d)
    → Advanced way c (set_at ls i y) ss ds kept now o outcomes
advance_at way c zero x y (l ∷ ls) (s ∷ ss) (d ∷ ds) kept now o outcomes f at moves =
    let m = moves s d (subst (λ (z : Connection). IsAt z s d) at.0 f.0) in
    let here : eqb s.number c ≡ true = ap (λ (n : ℕ). eqb n c) (sym f.0.number) ∙ at.1 in
    record {
      now_handled = (d ++ m.fresh) ∷ ds;
      fresh = m.fresh;
      follow = rw here (m.now_at, f.1);
      joins = joins_before way (d ++ m.fresh) d m.fresh (all_of ds) (joins_append way d m.fresh);
      reported = m.reported;
    }
advance_at way c (suc i) x y (l ∷ ls) (s ∷ ss) (d ∷ ds) kept now o outcomes f at moves =
    let a = advance_at way c i x y ls ss ds kept now o outcomes f.1 at.1 moves in
    let not_here : eqb s.number c ≡ false = ap (λ (n : ℕ). eqb n c) (sym f.0.number) ∙ at.0 in
    record {
      now_handled = d ∷ a.now_handled;
      fresh = a.fresh;
      follow = rw not_here (f.0, a.follow);
      joins = joins_after way d (all_of a.now_handled) (all_of ds) a.fresh a.joins;
      reported = a.reported;
    }
advance_at way c i x y [] [] [] kept now o outcomes f at moves = absurd at
advance_at way c i x y [] [] (d ∷ ds) kept now o outcomes f at moves = absurd f
advance_at way c i x y [] (s ∷ ss) [] kept now o outcomes f at moves = absurd f
advance_at way c i x y [] (s ∷ ss) (d ∷ ds) kept now o outcomes f at moves = absurd f
advance_at way c i x y (l ∷ ls) [] [] kept now o outcomes f at moves = absurd f
advance_at way c i x y (l ∷ ls) [] (d ∷ ds) kept now o outcomes f at moves = absurd f
advance_at way c i x y (l ∷ ls) (s ∷ ss) [] kept now o outcomes f at moves = absurd f

-- a new connection after all, and its opening after all
pub follow_push : (l : Connection) (s : Stream) (d : List (List ℕ)) (ls : List Connection) (ss : List Stream)
    (ds : List (List (List ℕ)))
    → AreAt ls ss ds → IsAt l s d → AreAt (ls ++ l ∷ []) (ss ++ s ∷ []) (ds ++ d ∷ [])
follow_push l s d [] [] [] f g = (g, tt)
follow_push l s d (m ∷ ls) (z ∷ ss) (e ∷ ds) f g = (f.0, follow_push l s d ls ss ds f.1 g)
follow_push l s d [] [] (e ∷ ds) f g = absurd f
follow_push l s d [] (z ∷ ss) [] f g = absurd f
follow_push l s d [] (z ∷ ss) (e ∷ ds) f g = absurd f
follow_push l s d (m ∷ ls) [] [] f g = absurd f
follow_push l s d (m ∷ ls) [] (e ∷ ds) f g = absurd f
follow_push l s d (m ∷ ls) (z ∷ ss) [] f g = absurd f

pub same_count : (ls : List Connection) (ss : List Stream) (ds : List (List (List ℕ))) → AreAt ls ss ds
    → length ls ≡ length ss
same_count [] [] [] f = refl
same_count (m ∷ ls) (z ∷ ss) (e ∷ ds) f = ap suc (same_count ls ss ds f.1)
same_count [] [] (e ∷ ds) f = absurd f
same_count [] (z ∷ ss) [] f = absurd f
same_count [] (z ∷ ss) (e ∷ ds) f = absurd f
same_count (m ∷ ls) [] [] f = absurd f
same_count (m ∷ ls) [] (e ∷ ds) f = absurd f
same_count (m ∷ ls) (z ∷ ss) [] f = absurd f

-- the opening at which the i-th connection is
pub record HasOpening (c : ℕ) (x : Connection) (ss : List Stream) : Type 0 where
  pub opening : Stream
  pub handled : List (List ℕ)
  pub at : IsAt x opening handled
  pub is : stream_of c ss ≡ Some opening

pub opening_at : (c i : ℕ) (x : Connection) (ls : List Connection) (ss : List Stream) (ds : List (List (List ℕ)))
    → AreAt ls ss ds → AtPlace c ls i x → HasOpening c x ss
opening_at c zero x (l ∷ ls) (s ∷ ss) (d ∷ ds) f at =
    let here : eqb s.number c ≡ true = ap (λ (n : ℕ). eqb n c) (sym f.0.number) ∙ at.1 in
    record { opening = s; handled = d; at = subst (λ (z : Connection). IsAt z s d) at.0 f.0; is = rw here refl }
opening_at c (suc i) x (l ∷ ls) (s ∷ ss) (d ∷ ds) f at =
    let later = opening_at c i x ls ss ds f.1 at.1 in
    let not_here : eqb s.number c ≡ false = ap (λ (n : ℕ). eqb n c) (sym f.0.number) ∙ at.0 in
    record { opening = later.opening; handled = later.handled; at = later.at; is = rw not_here later.is }
opening_at c i x [] [] [] f at = absurd at
opening_at c i x [] [] (d ∷ ds) f at = absurd f
opening_at c i x [] (s ∷ ss) [] f at = absurd f
opening_at c i x [] (s ∷ ss) (d ∷ ds) f at = absurd f
opening_at c i x (l ∷ ls) [] [] f at = absurd f
opening_at c i x (l ∷ ls) [] (d ∷ ds) f at = absurd f
opening_at c i x (l ∷ ls) (s ∷ ss) [] f at = absurd f

pub set_same : (c i : ℕ) (x : Connection) (ls : List Connection) → AtPlace c ls i x → set_at ls i x ≡ ls
set_same c i x [] at = absurd at
set_same c zero x (l ∷ ls) at = ap (λ (z : Connection). z ∷ ls) (sym at.0)
set_same c (suc i) x (l ∷ ls) at = ap (λ (zs : List Connection). l ∷ zs) (set_same c i x ls at.1)

-- all frames of the opening of a connection were handled
abbrev pub IsHandled : Connection → Type 0
IsHandled x = (s : Stream) (d : List (List ℕ)) → IsAt x s d → IsFramesOf s d

-- one connection is taken out
pub record Closed (way : FrameReading) (c : ℕ) (ls : List Connection) (ss : List Stream) (ds : List (List
    (List ℕ))) : Type 0
  where
    pub was_open : IsSome (stream_of c ss)
    pub still : List (List (List ℕ))
    pub gone : List (List ℕ)
    pub follow : AreAt ls (without c ss) still
    pub gone_are : AreFramesOf (streams_of c ss) (gone ∷ [])
    pub joins : Joins way (all_of ds) (all_of still) gone

pub close_at : (way : FrameReading) (c i : ℕ) (x : Connection) (ls : List Connection) (ss : List Stream)
    (ds : List (List (List ℕ))) → AreAt ls ss ds → AtPlace c ls i x → IsHandled x → Closed way c (remove ls i) ss ds
close_at way c zero x (l ∷ ls) (s ∷ ss) (d ∷ ds) f at none =
    let here : eqb s.number c ≡ true = ap (λ (n : ℕ). eqb n c) (sym f.0.number) ∙ at.1 in
    record {
      was_open = rw here refl;
      still = ds;
      gone = d;
      follow = rw here f.1;
      gone_are = rw here (none s d (subst (λ (z : Connection). IsAt z s d) at.0 f.0), tt);
      joins = λ e. (
        λ h. elim (spelled_either way d (all_of ds) e h) [ inl a ↦ inr a | inr b ↦ inl b ],
        λ h. elim h [ inl b ↦ spelled_after way d (all_of ds) e b | inr a ↦ spelled_before way d (all_of ds) e a ],
      );
    }
close_at way c (suc i) x (l ∷ ls) (s ∷ ss) (d ∷ ds) f at none =
    let rest = close_at way c i x ls ss ds f.1 at.1 none in
    let not_here : eqb s.number c ≡ false = ap (λ (n : ℕ). eqb n c) (sym f.0.number) ∙ at.0 in
    record {
      was_open = rw not_here rest.was_open;
      still = d ∷ rest.still;
      gone = rest.gone;
      follow = rw not_here (f.0, rest.follow);
      gone_are = rw not_here rest.gone_are;
      joins = joins_after way d (all_of ds) (all_of rest.still) rest.gone rest.joins;
    }
close_at way c i x [] [] [] f at none = absurd at
close_at way c i x [] [] (d ∷ ds) f at none = absurd f
close_at way c i x [] (s ∷ ss) [] f at none = absurd f
close_at way c i x [] (s ∷ ss) (d ∷ ds) f at none = absurd f
close_at way c i x (l ∷ ls) [] [] f at none = absurd f
close_at way c i x (l ∷ ls) [] (d ∷ ds) f at none = absurd f
close_at way c i x (l ∷ ls) (s ∷ ss) [] f at none = absurd f
