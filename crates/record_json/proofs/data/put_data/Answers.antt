use Rattle.std.proofs.Common.{[], ◌∷◌, ◌∙◌, sym}
use Rattle.std.proofs.lemmas.Bool.{false≢true}
use Rattle.octet_language.specs.Language.{Only}
use Rattle.syslog_fields.proofs.Appends.{puts_as}
use Rattle.record_json.specs.Texts.{DataOf, ElementsOf}
use Rattle.record_json.proofs.DataParts.{data_none, data_some}
use Rattle.record_json.proofs.data.put_data.Goals as goal

pub returns-then-begins_with : goal.returns-then-begins_with
returns-then-begins_with c =
    let text = c.args.«structured_data».now in
    let first = c.begins_with.ensures.mark c.if-begins_with.true in
    puts_as (Only (125 ∷ [])) (DataOf text) c.args.out.now.items c.put.new.out.items c.put.result
    (data_none text first.0 first.1) c.put.ensures

pub returns : goal.returns
returns c =
    let text = c.args.«structured_data».now in
    puts_as (ElementsOf text) (DataOf text) c.args.out.now.items c.put_elements.new.out.items c.put_elements.result
    (data_some text (c.begins_with.ensures.other (λ e. false≢true (sym c.if-begins_with.false ∙ e))))
    c.put_elements.ensures
