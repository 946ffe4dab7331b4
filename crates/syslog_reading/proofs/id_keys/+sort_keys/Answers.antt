use Rattle.std.proofs.Common.{List, ℕ, subst, sym}
use Rattle.std.specs.List.Sorted.{IsPermutation}
use Rattle.std.proofs.lemmas.List.Sorted.{IsPermutation-map, IsPermutation-trans}
use Rattle.syslog_reading.specs.IdKeys.{offset_of, offsets}
use Rattle.syslog_reading.proofs.Sorted.{moved_mid}
use Rattle.syslog_reading.proofs.id_keys.+sort_keys.Goals as goal
use Rattle.syslog_reading.proofs.id_keys.+sort_keys.Goals.{then-may_go_on, else-may_go_on}

pub returns-then-depth-ge-LAST_DEPTH : goal.returns-then-depth-ge-LAST_DEPTH
returns-then-depth-ge-LAST_DEPTH t c =
    IsPermutation-map (λ k. offset_of k) c.args.keys.now c.sort_unstable.new.self c.sort_unstable.ensures.permutation

pub loop-start-init : goal.loop-start-init
loop-start-init t c =
    IsPermutation-map (λ k. offset_of k) c.args.keys.now c.sort_unstable.new.self c.sort_unstable.ensures.permutation

pub loop-start-preserved : goal.loop-start-preserved
loop-start-preserved t c = elim c.if-may_go_on.branch [
  | then-may_go_on w ↦ subst (λ (u : List ℕ). IsPermutation (offsets c.args.keys.now) (offsets u)) (sym w.keys-is)
      (IsPermutation-trans (offsets c.args.keys.now) (offsets c.loop-start.keys) _ c.loop-start.invariant
      (moved_mid c.loop-start.start _ c.loop-start.keys w.sort_keys.new.keys
      (subst (λ (u : List ℕ). IsPermutation u (offsets w.sort_keys.new.keys)) w.set_fronts.ensures w.sort_keys.ensures)))
  | else-may_go_on w ↦ subst (λ (u : List ℕ). IsPermutation (offsets c.args.keys.now) (offsets u)) (sym w.keys-is)
      c.loop-start.invariant
]
