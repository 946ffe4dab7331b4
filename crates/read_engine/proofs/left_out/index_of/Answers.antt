use Rattle.std.proofs.Common.{◌≡◌, ◌∙◌, List, ℕ, ap, take_all}
use Rattle.std.specs.BTreeMap.{is_at}
use Rattle.std.specs.Cmp.Lexicographic.{slice_cmp}
use Rattle.std.specs.List.{list_any}
use Rattle.std.specs.Ordering.{nat_cmp}
use Rattle.read_engine.specs.LeftOut.{is_among}
use Rattle.read_engine.proofs.NameIndexes.{index_next}
use Rattle.read_engine.proofs.left_out.index_of.Goals as goal

pub names-init : goal.names-init
names-init c = λ name.
    ap (λ ks. list_any (is_at (λ k. slice_cmp nat_cmp name k.items)) ks) c.new-index.ensures.empty

pub names-preserved : goal.names-preserved
names-preserved c =
    let next = c.name-item.result in
    let key = c.in_ok-to_vec.field-0 in
    let is : key.items ≡ next =
    c.in_ok-to_vec.ensures.items_if_clones_equal (λ x y e. e) ∙ c.as_octets.ensures.value
    in
    index_next c.names.index c.insert.new.self c.args.names.now c.names.name-index key.items next c.names-test.true
    c.name-item.is is c.in_ok-insert.ensures.updates c.names.invariant

pub returns : goal.returns
returns c = λ name.
    c.names.invariant name
    ∙ ap (λ (l : List (List ℕ)). is_among l name)
    (take_all c.names.name-index c.args.names.now c.names-test.false)
