use Rattle.std.proofs.Common.{◌≡◌, ◌∙◌, [], length, rules, append-nil, sym}
use Rattle.std.proofs.lemmas.Bool.{false≢true}
use Rattle.syslog_legacy.specs.TagViews.{tag_parts}
use Rattle.syslog_legacy.proofs.WideTags.{bracket_last, whole_word, word_whole}
use Rattle.syslog_legacy.proofs.wide_tag.is_bracketed.Goals as goal

pub returns-then-not-ends_in : goal.returns-then-not-ends_in
returns-then-not-ends_in c = (
  λ h. absurd (false≢true h),
  λ h. absurd (false≢true (sym c.if-not-ends_in.true ∙ c.ends_in.ensures.1 (bracket_last c.args.word.now h))),
)

pub returns-in-Some : goal.returns-in-Some
returns-in-Some c =
    let word = c.args.word.now in
    let rest = c.in-Some.rest.now in
    let tag = tag_parts c.in-Some._tag in (
      λ h. (let empty : length rest ≡ 0 = search rules in word_whole word rest tag c.in-Some.ensures empty),
      λ h. (let empty : length rest ≡ 0 = whole_word word rest tag c.in-Some.ensures h in search rules),
    )

pub returns-in-None : goal.returns-in-None
returns-in-None c = (
  λ h. absurd (false≢true h),
  λ h. absurd (c.in-None.ensures c.args.word.now [] (sym (append-nil c.args.word.now)) h),
)
