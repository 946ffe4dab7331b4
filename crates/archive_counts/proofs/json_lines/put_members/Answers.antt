use Rattle.octet_language.specs.Language.{Only}
use Rattle.syslog_fields.specs.Appending.{Anything}
use Rattle.syslog_fields.proofs.Appends.{adds_as, adds_some, puts_failed}
use Rattle.archive_counts.specs.Json.{MembersText}
use Rattle.archive_counts.specs.declared.key.CountKey.TheVariants.{Host}
use Rattle.archive_counts.proofs.Members.{members_all, members_begun, members_more, members_none}
use Rattle.archive_counts.proofs.json_lines.put_members.Goals as goal

pub keys-init : goal.keys-init
keys-init c = members_none c.args.keys.now c.args.words.now c.args.out.now.items

pub keys-preserved : goal.keys-preserved
keys-preserved c =
    members_more c.args.keys.now c.args.words.now c.keys.key-index Host c.keys.rest.now _ _ c.args.out.now.items
    c.keys.out.items c.put.new.out.items c.put_value.new.out.items c.keys-test.true c.split_word.ensures
    c.keys.invariant (rw c.member_key.ensures at c.in_ok-put.ensures) c.in_ok-put_value.ensures

pub returns-in_err-put : goal.returns-in_err-put
returns-in_err-put c =
    puts_failed Anything (MembersText c.args.keys.now c.args.words.now) c.args.out.now.items c.keys.out.items
    c.put.new.out.items c.from_residual.result c.from_residual.ensures.0
    (members_begun c.args.keys.now c.args.words.now c.keys.key-index c.keys.rest.now c.args.out.now.items
    c.keys.out.items c.keys.invariant) c.in_err-put.ensures

pub returns-in_err-put_value : goal.returns-in_err-put_value
returns-in_err-put_value c =
    puts_failed Anything (MembersText c.args.keys.now c.args.words.now) c.args.out.now.items c.put.new.out.items
    c.put_value.new.out.items c.from_residual-in_err-put_value.result c.from_residual-in_err-put_value.ensures.0
    (adds_some Anything Anything c.args.out.now.items c.keys.out.items c.put.new.out.items
    (members_begun c.args.keys.now c.args.words.now c.keys.key-index c.keys.rest.now c.args.out.now.items
    c.keys.out.items c.keys.invariant)
    (adds_as (Only c.member_key.result.now) Anything c.keys.out.items c.put.new.out.items (λ s e. tt) c.in_ok-put.ensures))
    c.in_err-put_value.ensures

pub returns : goal.returns
returns c =
    members_all c.args.keys.now c.args.words.now c.keys.key-index c.keys.rest.now c.args.out.now.items c.keys.out.items
    c.keys-test.false c.keys.invariant
