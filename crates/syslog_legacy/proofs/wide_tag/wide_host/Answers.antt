use Rattle.std.proofs.Common.{◌∙◌, inl, refl, sym}
use Rattle.std.proofs.lemmas.Bool.{false≢true}
use Rattle.std.specs.Prelude.{option_map}
use Rattle.syslog_legacy.proofs.WideTags.{host_there, no_wide_host}
use Rattle.syslog_legacy.proofs.wide_tag.wide_host.Goals as goal

pub returns-then-is_tag_word : goal.returns-then-is_tag_word
returns-then-is_tag_word c = (
  c.host_run.result.0.now,
  c.host_run.result.1.now,
  c.host_run.ensures,
  inl (c.is_tag_word.ensures.0 c.if-is_tag_word.true, refl, refl),
)

pub returns-then-ends_in : goal.returns-then-ends_in
returns-then-ends_in c =
    no_wide_host c.args.octets.now c.host_run.result.0.now c.host_run.result.1.now c.host_run.ensures
    (λ h. false≢true (sym c.if-is_tag_word.false ∙ c.is_tag_word.ensures.1 h))
    (c.ends_in.ensures.0 c.if-ends_in.true)

pub returns : goal.returns
returns c =
    host_there c.args.octets.now c.host_run.result.0.now c.host_run.result.1.now c.host_of.result
    (λ x. option_map (λ s. s.now) x.0) (λ x. x.1.now) c.host_run.ensures
    (λ h. false≢true (sym c.if-is_tag_word.false ∙ c.is_tag_word.ensures.1 h))
    (λ h. false≢true (sym c.if-ends_in.false ∙ c.ends_in.ensures.1 h)) c.host_of.ensures
