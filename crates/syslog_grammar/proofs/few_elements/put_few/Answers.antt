use Rattle.std.proofs.Common.{◌≡◌, ◌∙◌, ap, subst, take, length, rules}
use Rattle.std.proofs.lemmas.List.{take_at}
use Rattle.syslog_grammar.specs.Sorting.{AreTextsOf, IsTextOf, SortedElementsOf, TextsForm}
use Rattle.syslog_grammar.proofs.Sorting.{puts_wider, sorted_form}
use Rattle.syslog_grammar.proofs.few_elements.put_few.Goals as goal

pub returns : goal.returns
returns c =
    let prefix = c.split_at_mut-found.result.0.now in
    let size : length prefix ≡ c.in-Some.count = search rules in
    let taken : take c.in-Some.count c.fill_texts.new.texts ≡ prefix =
    ap (take c.in-Some.count) c.split_at_mut-found.ensures.value
    ∙ take_at prefix c.split_at_mut-found.result.1.now c.in-Some.count size in
    puts_wider (TextsForm c.args.is_form c.sort_unstable.new.self) (SortedElementsOf c.args.is_form c.args.elements.now)
    c.args.out.now.items c.put_texts.new.out.items c.put_texts.result
    (λ b. sorted_form (IsTextOf c.args.is_form) c.args.is_form c.args.elements.now prefix c.sort_unstable.new.self b
    (λ es h. subst (AreTextsOf c.args.is_form es) taken (c.in-Some.ensures.1 c.args.is_form es h))
    c.sort_unstable.ensures.permutation)
    c.put_texts.ensures
