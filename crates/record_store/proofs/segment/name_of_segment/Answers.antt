use Rattle.std.proofs.Common.{◌≡◌, ◌∷◌, ◌++◌, length, rules, subst, sym, arith}
use Rattle.std.specs.Prelude.{codes}
use Rattle.std.proofs.lemmas.Grind.{common_steps}
use Rattle.std.proofs.lemmas.Result.{IfOk-weaker}
use Rattle.disk.specs.Names.{IsFileName}
use Rattle.record_store.proofs.Naming.{segment_is_name}
use Rattle.record_store.proofs.segment.name_of_segment.Goals as goal

pub returns-clause-none : goal.returns-clause-none
returns-clause-none c =
    let long : length c.args.hex.now ≡ 64 = search rules in
    let is : c.deref.result.now ≡ c.args.day.now ++ 46 ∷ c.args.hex.now ++ codes ".archive" =
    grind (arith, common_steps) in
    IfOk-weaker c.new.result _ _ (λ found named none digits day.
    named.0 none (subst IsFileName (sym is) (segment_is_name c.args.day.now c.args.hex.now long digits day)))
    c.new.ensures.none
