use Rattle.std.proofs.Common.{◌-◌, ap, ◌∙◌, arith}
use Rattle.std.specs.Prelude.{Some}
use Rattle.archive_proof.proofs.Climbs.{climb_end, climb_too_long, climb_too_short, climb_lower, climb_to_left}
use Rattle.archive_proof.proofs.Climbs.{climb_to_right}
use Rattle.archive_proof.proofs.climb.+climb_from.Goals as goal

pub returns-in-None : goal.returns-in-None
returns-in-None t c =
    climb_end c.args.level c.args.count c.args.index c.args.leaf.now c.args.path.now (omega arith) c.in-None.ensures

pub returns-in-Some : goal.returns-in-Some
returns-in-Some t c =
    climb_too_long c.args.level c.args.count c.args.index c.args.leaf.now c.in-Some.field-0.0.now c.args.path.now
    c.in-Some.field-0.1.now (omega arith) c.in-Some.ensures

pub returns-then-count-half : goal.returns-then-count-half
returns-then-count-half t c =
    c.climb_from.ensures ∙ climb_lower c.args.level (c.args.level - 1) c.args.count c.args.index c.power-half.result
    c.args.leaf.now c.args.path.now (omega arith) c.power-half.ensures c.if-count-half.true

pub returns-in_default : goal.returns-in_default
returns-in_default t c =
    climb_too_short c.args.level (c.args.level - 1) c.args.count c.args.index c.power-half.result c.args.leaf.now
    c.args.path.now (omega arith) c.power-half.ensures c.if-count-half.false c.in_default.ensures

pub returns-in-None-climb_from : goal.returns-in-None-climb_from
returns-in-None-climb_from t c =
    climb_to_left c.args.level (c.args.level - 1) c.args.count c.args.index c.power-half.result c.args.leaf.now
    c.in-Some-last_and_rest.beside.now c.args.path.now c.in-Some-last_and_rest.rest.now _
    (omega arith) c.power-half.ensures c.if-count-half.false c.if-index-half.true c.in-Some-last_and_rest.ensures
    c.in-None-climb_from.ensures

pub returns-in-Some-climb_from : goal.returns-in-Some-climb_from
returns-in-Some-climb_from t c =
    ap Some c.hash_node.ensures
    ∙ climb_to_left c.args.level (c.args.level - 1) c.args.count c.args.index c.power-half.result c.args.leaf.now
    c.in-Some-last_and_rest.beside.now c.args.path.now c.in-Some-last_and_rest.rest.now (Some c.in-Some-climb_from.left)
    (omega arith) c.power-half.ensures c.if-count-half.false c.if-index-half.true c.in-Some-last_and_rest.ensures
    c.in-Some-climb_from.ensures

pub returns-in-None-climb_from-2 : goal.returns-in-None-climb_from-2
returns-in-None-climb_from-2 t c =
    climb_to_right c.args.level (c.args.level - 1) c.args.count c.args.index c.power-half.result c.args.leaf.now
    c.in-Some-last_and_rest.beside.now c.args.path.now c.in-Some-last_and_rest.rest.now _
    (omega arith) c.power-half.ensures c.if-count-half.false c.if-index-half.false c.in-Some-last_and_rest.ensures
    c.in-None-climb_from-2.ensures

pub returns-in-Some-climb_from-2 : goal.returns-in-Some-climb_from-2
returns-in-Some-climb_from-2 t c =
    ap Some c.hash_node-in-Some-climb_from-2.ensures
    ∙ climb_to_right c.args.level (c.args.level - 1) c.args.count c.args.index c.power-half.result c.args.leaf.now
    c.in-Some-last_and_rest.beside.now c.args.path.now c.in-Some-last_and_rest.rest.now (Some
    c.in-Some-climb_from-2.right)
    (omega arith) c.power-half.ensures c.if-count-half.false c.if-index-half.false c.in-Some-last_and_rest.ensures
    c.in-Some-climb_from-2.ensures
