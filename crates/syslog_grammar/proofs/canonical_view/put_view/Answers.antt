use Rattle.std.proofs.Common.{◌≡◌, ◌∙◌, ℕ, List, ap, subst, take, length, rules, vec_len}
use Rattle.std.specs.Prelude.{OnOk}
use Rattle.syslog_fields.specs.Appending.{Anything}
use Rattle.syslog_reading.specs.WellFormed.{AddsCanonical}
use Rattle.syslog_fields.proofs.Appends.{adds_prefix}
use Rattle.syslog_grammar.proofs.canonical_view.put_view.Goals as goal

pub returns-clause-ok : goal.returns-clause-ok
returns-clause-ok c =
    let seen = c.put_ordered.new.out.items in
    let count : vec_len c.args.out.now ≡ length c.args.out.now.items = search rules in
    let back : c.truncate.new.self.items ≡ c.args.out.now.items =
    c.truncate.ensures.items ∙ ap (λ (n : ℕ). take n seen) (c.len-start.ensures ∙ count)
    ∙ adds_prefix Anything c.args.out.now.items seen c.put_ordered.ensures.begun in
    λ b h. subst (λ (old : List ℕ). OnOk c.put_unordered.result (AddsCanonical b old c.put_unordered.new.out.items))
    back (c.put_unordered.ensures.ok b h)
