use Rattle.std.proofs.Common.{◌≡◌, ◌∙◌, length, rules, sym}
use Rattle.std.proofs.lemmas.Bool.{false≢true}
use Rattle.syslog_legacy.specs.TagViews.{tag_parts}
use Rattle.syslog_legacy.specs.WideTags.{EndsInColon}
use Rattle.syslog_legacy.proofs.WideTags.{no_tag_word, tag_last, tag_whole, whole_tag}
use Rattle.syslog_legacy.proofs.wide_tag.is_tag.Goals as goal

pub returns-then-not-ends_in : goal.returns-then-not-ends_in
returns-then-not-ends_in c = (
  λ h. absurd (false≢true h),
  λ h. absurd (false≢true (sym c.if-not-ends_in.true ∙ c.ends_in.ensures.1 (tag_last c.args.word.now h))),
)

pub returns-in-Some : goal.returns-in-Some
returns-in-Some c =
    let word = c.args.word.now in
    let rest = c.in-Some.rest.now in
    let tag = tag_parts c.in-Some._tag in
    let colon : EndsInColon word = search rules in (
      λ h. (let empty : length rest ≡ 0 = search rules in tag_whole word rest tag colon c.in-Some.ensures empty),
      λ h. (let empty : length rest ≡ 0 = whole_tag word rest tag c.in-Some.ensures h in search rules),
    )

pub returns-in-None : goal.returns-in-None
returns-in-None c = (
  λ h. absurd (false≢true h),
  λ h. absurd (no_tag_word c.args.word.now c.in-None.ensures h),
)
