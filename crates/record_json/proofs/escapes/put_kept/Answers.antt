use Rattle.std.proofs.Common.{[], ◌∷◌, ◌++◌, List, ℕ, ap, sym, ◌∙◌}
use Rattle.octet_language.specs.Language.{Only}
use Rattle.json.specs.Print.{quoted}
use Rattle.syslog_fields.proofs.Appends.{only_puts, only_then, puts_as}
use Rattle.record_json.proofs.escapes.put_kept.Goals as goal

pub returns : goal.returns
returns c =
    let s = c.args.octets.now in
    puts_as (Only (34 ∷ s ++ 34 ∷ [])) (Only (quoted s)) c.args.out.now.items c.put_quote-2.new.out.items
    c.put_quote-2.result (λ t e. e ∙ ap (λ (u : List ℕ). 34 ∷ u ++ 34 ∷ []) (sym c.requires))
    (only_puts (34 ∷ s) (34 ∷ []) c.args.out.now.items c.put.new.out.items c.put_quote-2.new.out.items c.put_quote-2.result
    (only_then (34 ∷ []) s c.args.out.now.items c.put_quote.new.out.items c.put.new.out.items c.in_ok-put_quote.ensures
    c.in_ok-put.ensures) c.put_quote-2.ensures)
