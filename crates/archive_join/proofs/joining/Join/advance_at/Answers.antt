use Rattle.std.proofs.Common.{rules, ◌∙◌, ℤ, List, to_z, of_z, w64, ◌≡◌, ◌<◌, Err, true, get_or, length, map, set, ap, sym, subst, arith}
use Rattle.std.proofs.lemmas.Int.{ints}
use Rattle.std.proofs.lemmas.List.{map-set}
use Rattle.archive_join.specs.Heads.{key_of}
use Rattle.archive_join.specs.Failures.{ReadFailures, failures_of}
use Rattle.archive_join.specs.Sides.{AdvanceHalts}
use Rattle.archive_join.specs.declared.fault.JoinFault.{JoinFault}
use Rattle.archive_join.proofs.Failures.{failed_as_told, none_failed, stands_at}
use Rattle.archive_join.proofs.Sides.{advance_halts, advanced, flag_at, near_at}
use Rattle.archive_join.proofs.joining.Join.advance_at.Goals as goal

pub returns-in-Ok-clause-advances : goal.returns-in-Ok-clause-advances
returns-in-Ok-clause-advances g c =
    let at = c.args.at in
    let was = c.args.self.now in
    let on : c.index.result.now ≡ true = search rules in
    let within : at < length was.heads.items = omega (arith, was.heads.ok.0, c.requires.at) in
    let also : at < length was.holders.items = omega (arith, was.holders.ok.0, was.sizes, c.requires.at) in
    let read : at < length c.args.inputs.now = omega (arith, c.requires.at, c.requires.inputs) in
    let r = get_or c.args.inputs.now at c.index-inputs-at.result in
    let is : r ≡ get_or c.args.inputs.now at r = ap (λ x. get_or c.args.inputs.now at x) c.index-inputs-at.is in
    record {
      on = λ ds tss ws st.
          rw (map-set g.R.Input.state) (advanced was.heads.items was.holders.items (map g.R.Input.state c.args.inputs.now) at c.index_mut.result.now
          c.advance-advanced.new.self (g.R.Input.state r) (g.R.Input.state c.advance-advanced.new.reader) within also
          c.index_mut.ensures.value (flag_at was.holders.items at c.index.result.now true also c.index.ensures on)
          (stands_at g.R.Input.state c.args.inputs.now at r read is)
          c.in-Ok.ensures.moves ds tss ws st);
      halts = search rules;
    }

pub returns-in-Ok-clause-reads : goal.returns-in-Ok-clause-reads
returns-in-Ok-clause-reads g c =
    let read : c.args.at < length c.args.inputs.now = omega (arith, c.requires.at, c.requires.inputs) in
    let r = get_or c.args.inputs.now c.args.at c.index-inputs-at.result in
    let is : r ≡ get_or c.args.inputs.now c.args.at r = ap (λ x. get_or c.args.inputs.now c.args.at x) c.index-inputs-at.is in
    record {
      told = none_failed g.R.Input.state c.args.inputs.now c.args.at r c.advance-advanced.new.reader read is
          c.in-Ok.ensures.told;
      not_writer = search rules;
      not_memory = search rules;
    }

pub returns-in-Err-clause-advances : goal.returns-in-Err-clause-advances
returns-in-Err-clause-advances g c =
    let at = c.args.at in
    let was = c.args.self.now in
    let on : c.index.result.now ≡ true = search rules in
    let within : at < length was.heads.items = omega (arith, was.heads.ok.0, c.requires.at) in
    let also : at < length was.holders.items = omega (arith, was.holders.ok.0, was.sizes, c.requires.at) in
    let read : at < length c.args.inputs.now = omega (arith, c.requires.at, c.requires.inputs) in
    let r = get_or c.args.inputs.now at c.index-inputs-at.result in
    let is : r ≡ get_or c.args.inputs.now at r = ap (λ x. get_or c.args.inputs.now at x) c.index-inputs-at.is in
    let halts = advance_halts was.heads.items was.holders.items (map g.R.Input.state c.args.inputs.now) at
    c.index_mut.result.now (g.R.Input.state r) (g.R.Input.state c.advance-advanced.new.reader) c.in-Err.fault
    within also c.requires.idle c.index_mut.ensures.value
    (flag_at was.holders.items at c.index.result.now true also c.index.ensures on)
    (stands_at g.R.Input.state c.args.inputs.now at r read is) c.in-Err.ensures.fails in
    record {
      on = search rules;
      halts = subst (λ (f : JoinFault). AdvanceHalts f was.heads.items was.holders.items
          (map g.R.Input.state c.args.inputs.now)
          (map g.R.Input.state (set c.args.inputs.now at c.advance-advanced.new.reader))) (sym c.fault_of.ensures)
          (λ ds tss ws st. rw (map-set g.R.Input.state) (halts ds tss ws st));
    }

pub returns-in-Err-clause-reads : goal.returns-in-Err-clause-reads
returns-in-Err-clause-reads g c =
    let read : c.args.at < length c.args.inputs.now = omega (arith, c.requires.at, c.requires.inputs) in
    let r = get_or c.args.inputs.now c.args.at c.index-inputs-at.result in
    let is : r ≡ get_or c.args.inputs.now c.args.at r = ap (λ x. get_or c.args.inputs.now c.args.at x) c.index-inputs-at.is in
    record {
      told = subst (λ (f : JoinFault). ReadFailures {X = Unit {0}} (Err f)
          (failures_of (map g.R.Input.state c.args.inputs.now))
          (failures_of (map g.R.Input.state (set c.args.inputs.now c.args.at c.advance-advanced.new.reader))))
          (sym c.fault_of.ensures)
          (failed_as_told (Unit {0}) (Unit {0}) g.R.Input.state c.args.inputs.now c.args.at r
          c.advance-advanced.new.reader c.in-Err.fault read is c.in-Err.ensures.told);
      not_writer = search rules;
      not_memory = search rules;
    }

pub invariant_of-self : goal.invariant_of-self
invariant_of-self g c =
    let back : to_z w64 (of_z w64 c.key.result) ≡ c.key.result = omega (arith, ints) in
    let same : c.index-2.result.now ≡ c.advance-advanced.new.self = search rules in
    let was = c.args.self.now in record {
      sizes = was.sizes;
      are_keys = ap (set was.keys.items c.args.at) (back ∙ c.key.ensures ∙ ap key_of same)
          ∙ ap (λ (ks : List ℤ). set ks c.args.at (key_of c.advance-advanced.new.self)) was.are_keys
          ∙ sym (map-set key_of was.heads.items c.args.at c.advance-advanced.new.self);
    }

pub invariant_of-self-in-Err-1 : goal.invariant_of-self-in-Err-1
invariant_of-self-in-Err-1 g c =
    let back : to_z w64 (of_z w64 c.key.result) ≡ c.key.result = omega (arith, ints) in
    let same : c.index-2.result.now ≡ c.advance-advanced.new.self = search rules in
    let was = c.args.self.now in record {
      sizes = was.sizes;
      are_keys = ap (set was.keys.items c.args.at) (back ∙ c.key.ensures ∙ ap key_of same)
          ∙ ap (λ (ks : List ℤ). set ks c.args.at (key_of c.advance-advanced.new.self)) was.are_keys
          ∙ sym (map-set key_of was.heads.items c.args.at c.advance-advanced.new.self);
    }

pub returns-in-Ok-clause-nears : goal.returns-in-Ok-clause-nears
returns-in-Ok-clause-nears g c =
    let was = c.args.self.now in
    let within : c.args.at < length was.heads.items = omega (arith, was.heads.ok.0, c.requires.at) in
    near_at was.heads.items was.holders.items c.args.at c.index_mut.result.now c.advance-advanced.new.self within
    c.index_mut.ensures.value c.in-Ok.ensures.no_farther c.in-Ok.ensures.nearer
