-- What is parsed is the network that the text writes.
use Rattle.std.proofs.Common.{◌≡◌, ◌∙◌, ℕ, ◌-◌, ◌*◌, ◌/◌, ◌%◌, ◌^◌, Bool, true, Option, Some, None}
use Rattle.std.proofs.Common.{Err, Ok, Result, ap, arith, inl, inr, refl, subst, sym}
use Rattle.std.specs.Prelude.{◌==◌, ◌&&◌, nat_le, option_and_then, option_map}
use Rattle.std.specs.Result.{result_ok}
use Rattle.std.proofs.lemmas.Bool.{and_from, and_parts, cond-false, cond-true, eq-eqb, eqb-true, false_from_ne_true}
use Rattle.std.proofs.lemmas.Bool.{le-leb, leb-true, lt-ltb, ltb-true}
use Rattle.std.proofs.lemmas.Nat.{div-add-mod'}
use Rattle.std.proofs.lemmas.Str.Parse.{IsNumeralModel, numerals_by_value, tells_all_ascii_digits}
use Rattle.std.proofs.NetLemmas.Theorems.{IsIpText_unique}
use Rattle.std.specs.Net.Grammar.{IsIpText}
use Rattle.std.specs.Str.{all_ascii_digits}
use Rattle.std.specs.Str.Parse.{digits_value}
use Rattle.std.specs.declared.net.ip_addr.IpAddr.{IpAddr}
use Rattle.clap.specs.Walk.{Text}
use Rattle.peer_rules.specs.Addresses.{full_length, number_of, width_of}
use Rattle.peer_rules.specs.Networks.{Makes}
use Rattle.peer_rules.specs.NetworkTexts.{HasSlash, MakesNetwork, Reads, ReadsLength, address_part, length_part}
use Rattle.peer_rules.specs.declared.network.Network.{Network}
use Rattle.peer_rules.specs.declared.network_fault.NetworkFault.{NetworkFault}
use Rattle.peer_rules.specs.declared.network_fault.NetworkFault.TheVariants.{Address, HostBits, Length}
use Rattle.option_values.specs.Numbers.{number_in}
use Rattle.option_values.specs.TimeDecision.{Decided}
use Rattle.option_values.proofs.NumberLemmas.{number_no, number_yes}
use Rattle.server_words.specs.Networks.{decided_ip, ip_in, ip_where, length_in, network_asked, network_from, network_in}

-- ---- addresses

is_where : (text : Text) (a : IpAddr) (d : Decided ((x : IpAddr) × IsIpText text x)) → IsIpText text a
    → Some a ≡ ip_where text d
is_where text a (inl (b, spelled)) h = ap Some (IsIpText_unique text a b h spelled)
is_where text a (inr never) h = absurd (never (a, h))

none_where : (text : Text) (d : Decided ((x : IpAddr) × IsIpText text x)) → ((a : IpAddr) → ¬ (IsIpText text a))
    → None ≡ ip_where text d
none_where text (inl (b, spelled)) h = absurd (h b spelled)
none_where text (inr never) h = refl

spelled_ip : (text : Text) (a : IpAddr) → IsIpText text a → Some a ≡ ip_in text
unfolding ip_in
spelled_ip text a h = is_where text a (decided_ip text) h

unspelled_ip : (text : Text) → ((a : IpAddr) → ¬ (IsIpText text a)) → None ≡ ip_in text
unfolding ip_in
unspelled_ip text h = none_where text (decided_ip text) h

-- ---- lengths

own : IsNumeralModel (λ ds. all_ascii_digits ds ≡ true) (digits_value 10)
own = numerals_by_value _ tells_all_ascii_digits

length_number : (text : Text) (o : Option ℕ) → ReadsLength text o → o ≡ number_in 0 255 text
length_number text None never =
    number_no 0 255 text (λ digits some low high. never ((some, own.to text digits), omega (arith, high)))
length_number text (Some n) (numeral, (small, is)) =
    number_yes 0 255 text n (own.from text numeral.1) numeral.0 is (omega arith) (omega (arith, is, small))

with_slash : (address : IpAddr) (text : Text) → HasSlash text → length_in address text ≡ number_in 0 255 (length_part text)
with_slash address text has = cond-true _ _ _ (lt-ltb _ _ has)

without_slash : (address : IpAddr) (text : Text) → ¬ (HasSlash text) → length_in address text ≡ Some (width_of address)
without_slash address text none = cond-false _ _ _ (false_from_ne_true _ λ e. none (ltb-true _ _ e))

-- ---- networks

-- a number behind whose first bits there is none is the first of its network
first_of_its : (n m d : ℕ) → n % d ≡ 0 → m % d ≡ 0 → m / d ≡ n / d → m ≡ n
first_of_its n m d a b same =
    omega (arith, div-add-mod' n d, div-add-mod' m d, ap (λ q. q * d) same, a, b)

-- what is tested of an address and a length
abbrev is_exact : IpAddr → ℕ → Bool
is_exact address bits = number_of address % 2 ^ (128 - full_length address bits) == 0

refused : (address : IpAddr) (bits : ℕ) → ((nat_le bits (width_of address) && is_exact address bits) ≡ true → ⊥)
    → None ≡ network_from address bits
refused address bits never =
    sym (cond-false (nat_le bits (width_of address) && is_exact address bits)
    (Some (number_of address, full_length address bits)) None (false_from_ne_true _ never))

made : (address : IpAddr) (bits : ℕ) (r : Result Network NetworkFault) → Makes address bits r
    → option_map network_asked (result_ok r) ≡ network_from address bits
made address bits (Ok network) (fits, (first, len)) =
    let exact : number_of address % 2 ^ (128 - full_length address bits) ≡ 0 =
    subst (λ (n : ℕ). n % 2 ^ (128 - full_length address bits) ≡ 0) first
    (subst (λ (l : ℕ). network.first % 2 ^ (128 - l) ≡ 0) len network.exact) in
    ap (λ (n : ℕ). Some (n, network.length)) first ∙ ap (λ (l : ℕ). Some (number_of address, l)) len
    ∙ sym (cond-true _ _ _ (and_from _ _ (le-leb bits (width_of address) fits) (eq-eqb _ 0 exact)))
made address bits (Err Address) never = absurd never
made address bits (Err Length) few = refused address bits λ e.
    let (fits, exact) = and_parts (nat_le bits (width_of address)) (is_exact address bits) e in
    omega (arith, leb-true _ _ fits, few)
made address bits (Err (HostBits network)) (fits, (around, other)) = refused address bits λ e.
    let (few, exact) = and_parts (nat_le bits (width_of address)) (is_exact address bits) e in
    let of_network : network.first % 2 ^ (128 - full_length address bits) ≡ 0 =
    subst (λ (l : ℕ). network.first % 2 ^ (128 - l) ≡ 0) around.length_is network.exact in
    other (first_of_its (number_of address) network.first (2 ^ (128 - full_length address bits)) (eqb-true _ _ exact)
    of_network around.begins)

read_network : (text : Text) (address : IpAddr) (r : Result Network NetworkFault) → MakesNetwork text address r
    → option_map network_asked (result_ok r) ≡ option_and_then (network_from address) (length_in address text)
read_network text address r (inl (none, makes)) =
    made address (width_of address) r makes ∙ ap (option_and_then (network_from address)) (sym (without_slash address text none))
read_network text address r (inr (has, inl (n, (reads, makes)))) =
    made address n r makes
    ∙ ap (option_and_then (network_from address))
    (length_number (length_part text) (Some n) reads ∙ sym (with_slash address text has))
read_network text address r (inr (has, inr (reads, fault))) =
    ap (λ x. option_map network_asked (result_ok x)) fault
    ∙ ap (option_and_then (network_from address))
    (length_number (length_part text) None reads ∙ sym (with_slash address text has))

pub network_read : (text : Text) (r : Result Network NetworkFault) → Reads text r
    → option_map network_asked (result_ok r) ≡ network_in text
network_read text r (inl (fault, never)) =
    ap (λ x. option_map network_asked (result_ok x)) fault
    ∙ ap (λ o. option_and_then (λ address. option_and_then (network_from address) (length_in address text)) o)
    (unspelled_ip (address_part text) never)
network_read text r (inr (address, (spelled, makes))) =
    read_network text address r makes
    ∙ ap (λ o. option_and_then (λ a. option_and_then (network_from a) (length_in a text)) o)
    (spelled_ip (address_part text) address spelled)
