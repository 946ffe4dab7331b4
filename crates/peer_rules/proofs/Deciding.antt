-- Whether an address may send is decided.
use Rattle.std.proofs.Common.{◌≡◌, ◌↔◌, ℕ, ◌/◌, ◌^◌, ◌≤◌, Bool, true, false, List, length, refl, sym, true≢false, ap}
use Rattle.std.specs.Prelude.{◌==◌, ◌||◌, Any, IsTrue, nat_le, not}
use Rattle.std.specs.Bool.{Decides, one_answer}
use Rattle.std.specs.List.{list_any}
use Rattle.std.proofs.lemmas.Bool.Decides.{Decides-and, Decides-eqb, Decides-like, Decides-or}
use Rattle.std.proofs.lemmas.Bool.{le-leb, leb-true}
use Rattle.std.proofs.lemmas.List.{nil_from_length}
use Rattle.std.proofs.lemmas.List.Folds.{Any-from_list_any, list_any-from_Any}
use Rattle.peer_rules.specs.Addresses.{prefix}
use Rattle.peer_rules.specs.AllowLists.{MaySend, is_in, may_send}
use Rattle.peer_rules.specs.Networks.{IsIn}
use Rattle.peer_rules.specs.declared.address.TheConstants.{MAPPED}
use Rattle.peer_rules.specs.declared.network.Network.{Network}

implies_decides : {P Q : Type 0} (p q : Bool) → Decides p P → Decides q Q → Decides (not p || q) (P → Q)
implies_decides true q d k = (λ e _. k.0 e, λ f. k.1 (f (d.0 refl)))
implies_decides false q d k = (λ _ p. absurd (true≢false (sym (d.1 p))), λ _. refl)

le_decides : (a b : ℕ) → Decides (nat_le a b) (a ≤ b)
le_decides a b = (leb-true a b, le-leb a b)

in_decides : (network : Network) (number : ℕ) → Decides (is_in network number) (IsIn network number)
in_decides network number =
    Decides-like (is_in network number) (λ p. record { begins = p.0; of_its_kind = p.1 }) (λ i. (i.begins, i.of_its_kind))
    (Decides-and (prefix network.length number == prefix network.length network.first)
    (not (number / 2 ^ 32 == MAPPED / 2 ^ 32) || nat_le 96 network.length)
    (Decides-eqb (prefix network.length number) (prefix network.length network.first))
    (implies_decides (number / 2 ^ 32 == MAPPED / 2 ^ 32) (nat_le 96 network.length)
    (Decides-eqb (number / 2 ^ 32) (MAPPED / 2 ^ 32)) (le_decides 96 network.length)))

any_decides : (networks : List Network) (number : ℕ)
    → Decides (list_any (λ network. is_in network number) networks) (Any (λ network. IsIn network number) networks)
any_decides networks number = (
  λ e. let (k, n, within, at, h) = Any-from_list_any (λ network. is_in network number) networks e in
      (k, n, within, at, (in_decides n number).0 h),
  λ a. let (k, n, within, at, h) = a in
      list_any-from_Any (λ network. is_in network number) networks (k, n, within, at, (in_decides n number).1 h),
)

pub may_send_decides : (networks : List Network) (number : ℕ) → Decides (may_send networks number) (MaySend networks number)
unfolding may_send
may_send_decides networks number =
    Decides-or (length networks == 0) (list_any (λ network. is_in network number) networks)
    (Decides-like (length networks == 0) (nil_from_length networks) (λ e. ap length e) (Decides-eqb (length networks) 0))
    (any_decides networks number)

-- so is what was told of it
pub told_as : (networks : List Network) (number : ℕ) (told : Bool) → (IsTrue told ↔ MaySend networks number)
    → told ≡ may_send networks number
told_as networks number told is =
    one_answer told (may_send networks number) (λ e. is.0 e, λ m. is.1 m) (may_send_decides networks number)
