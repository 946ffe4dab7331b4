use Rattle.std.proofs.Common.{◌-◌, ◌^◌, rules}
use Rattle.std.proofs.lemmas.Nat.{pow_pos}
use Rattle.peer_rules.proofs.Prefixes.{exact_front, front_begins}
use Rattle.peer_rules.proofs.network.Network.around.Goals as goal

pub invariant_of-result : goal.invariant_of-result
invariant_of-result c = record {
  within = c.requires;
  exact = rw c.host_bits-rest.ensures (exact_front c.args.number (2 ^ (128 - c.args.length)));
}

pub returns : goal.returns
returns c = record {
  length_is = search rules;
  begins = rw c.host_bits-rest.ensures (front_begins c.args.number (2 ^ (128 - c.args.length)) (pow_pos (128 - c.args.length)));
}
