use Rattle.std.proofs.Common.{refl}
use Rattle.std.specs.Prelude.{option_map}
use Rattle.octet_language.specs.Language.{Only}
use Rattle.syslog_reading.specs.CanonicalOctets.{shown_parts}
use Rattle.syslog_fields.specs.Dates.{time_of}
use Rattle.syslog_fields.specs.Time.{instant}
use Rattle.syslog_grammar.specs.Verbatim.{VerbatimForm}
use Rattle.syslog_fields.proofs.Appends.{puts_as}
use Rattle.syslog_reading.proofs.Headers.{time_follows}
use Rattle.syslog_grammar.proofs.CanonicalOctets.{parts_verbatim, whole_verbatim}
use Rattle.syslog_grammar.proofs.canonical_octets.put_verbatim.Goals as goal

pub has_time_form-requires : goal.has_time_form-requires
has_time_form-requires c = time_follows c.args.octets.now c.split_at.result.1.now c.args.parsed c.requires.parsed
    c.split_at.ensures.back

pub put_front-requires-clause-time : goal.put_front-requires-clause-time
put_front-requires-clause-time c = (_, time_follows c.args.octets.now _ c.args.parsed c.requires.parsed refl)

pub returns-then-has_time_form : goal.returns-then-has_time_form
returns-then-has_time_form c =
    puts_as (Only c.args.octets.now) (VerbatimForm
    (shown_parts c.args.parsed (option_map (λ t. instant (time_of t)) c.args.parsed.fields.time))) c.args.out.now.items
    c.put.new.out.items c.put.result
    (λ s e. rw e (whole_verbatim c.args.octets.now c.split_at.result.1.now c.args.parsed _
    c.requires.parsed c.split_at.ensures.back refl (c.has_time_form.ensures.0 c.if-has_time_form.true)))
    c.put.ensures

pub returns : goal.returns
returns c =
    parts_verbatim c.args.octets.now c.split_at-2.result.1.now c.args.out.now.items c.put_front.new.out.items
    c.put-2.new.out.items c.args.parsed _ c.put-2.result c.requires.parsed c.split_at-2.ensures.back
    c.in_ok-put_front.ensures c.put-2.ensures
