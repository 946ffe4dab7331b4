use Rattle.std.proofs.Common.{◌≡◌, ◌∙◌, ℕ, List, ap, subst, take, length, rules, vec_len}
use Rattle.std.specs.Prelude.{⊤}
use Rattle.std.specs.declared.alloc.AllocError.{AllocError}
use Rattle.syslog_fields.specs.Appending.{Anything}
use Rattle.syslog_grammar.specs.Reescaped.{PutsUnless}
use Rattle.syslog_grammar.specs.Sorting.{SortedElementsOf}
use Rattle.syslog_fields.proofs.Appends.{adds_prefix}
use Rattle.syslog_grammar.proofs.Sorting.{unless_begun}
use Rattle.syslog_grammar.proofs.sorted.put_elements.Goals as goal

pub returns : goal.returns
returns c =
    let seen = c.put_few.new.out.items in
    let count : vec_len c.args.out.now ≡ length c.args.out.now.items = search rules in
    let back : c.truncate.new.self.items ≡ c.args.out.now.items =
    c.truncate.ensures.items ∙ ap (λ (n : ℕ). take n seen) (c.len-start.ensures ∙ count)
    ∙ adds_prefix Anything c.args.out.now.items seen
    (unless_begun AllocError (SortedElementsOf c.args.is_form c.args.elements.now) c.args.out.now.items seen
    c.in_ok-put_few.field-0 c.if-branch.false c.in_ok-put_few.ensures) in
    subst (λ (old : List ℕ). PutsUnless (SortedElementsOf c.args.is_form c.args.elements.now) ⊤ old
    c.put_by_keys.new.out.items c.put_by_keys.result) back c.put_by_keys.ensures
