use Rattle.std.proofs.Common.{◌≡◌, ◌∙◌, ap, subst, take, length, rules}
use Rattle.std.proofs.lemmas.List.{take_at}
use Rattle.syslog_grammar.specs.Sorting.{AreKeysOf, IsKeyOf, KeysForm, SortedElementsOf}
use Rattle.syslog_grammar.proofs.Sorting.{puts_wider, sorted_form}
use Rattle.syslog_grammar.proofs.sorted.put_sorted_in.Goals as goal

pub returns : goal.returns
returns c =
    let prefix = c.split_at_mut-found.result.0.now in
    let size : length prefix ≡ c.in-Some.count = search rules in
    let taken : take c.in-Some.count c.fill_keys.new.keys ≡ prefix =
    ap (take c.in-Some.count) c.split_at_mut-found.ensures.value
    ∙ take_at prefix c.split_at_mut-found.result.1.now c.in-Some.count size in
    puts_wider (KeysForm c.args.is_form c.args.elements.now c.sort_keys.new.keys)
    (SortedElementsOf c.args.is_form c.args.elements.now) c.args.out.now.items
    c.put_rising.new.out.items c.put_rising.result
    (λ b. sorted_form (IsKeyOf c.args.is_form c.args.elements.now) c.args.is_form c.args.elements.now prefix c.sort_keys.new.keys b
    (λ es h. subst (AreKeysOf c.args.is_form c.args.elements.now es) taken (c.in-Some.ensures.1 c.args.is_form es h))
    c.sort_keys.ensures)
    c.put_rising.ensures
