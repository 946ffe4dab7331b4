use Rattle.std.proofs.Common.{[], ◌∷◌, take}
use Rattle.octet_language.specs.Language.{Only}
use Rattle.syslog_fields.specs.Appending.{Anything}
use Rattle.syslog_fields.proofs.Appends.{adds_some, puts_failed}
use Rattle.archive_counts.specs.Words.{WordsText}
use Rattle.archive_counts.specs.declared.key.CountKey.TheVariants.{Host}
use Rattle.archive_counts.proofs.WordTexts.{words_all, words_begin, words_step}
use Rattle.archive_counts.proofs.words.put_words.Goals as goal

pub keys-init : goal.keys-init
keys-init c = λ r known time. words_begin r c.args.out.now.items

pub returns-in_err-put : goal.returns-in_err-put
returns-in_err-put c = λ r known time.
    puts_failed (WordsText (take c.keys.key-index c.args.keys.now) r) (WordsText c.args.keys.now r) c.args.out.now.items
    c.keys.out.items c.put.new.out.items c.from_residual.result c.from_residual.ensures.0
    (c.keys.invariant r known time) c.in_err-put.ensures

pub returns-in_err-put_word : goal.returns-in_err-put_word
returns-in_err-put_word c = λ r known time.
    puts_failed Anything (WordsText c.args.keys.now r) c.args.out.now.items c.put.new.out.items c.put_word.new.out.items
    c.from_residual-in_err-put_word.result c.from_residual-in_err-put_word.ensures.0
    (adds_some (WordsText (take c.keys.key-index c.args.keys.now) r) (Only (32 ∷ [])) c.args.out.now.items
    c.keys.out.items c.put.new.out.items (c.keys.invariant r known time) c.in_ok-put.ensures)
    (c.in_err-put_word.ensures r known time)

pub keys-preserved : goal.keys-preserved
keys-preserved c = λ r known time.
    words_step c.args.keys.now c.keys.key-index Host r c.args.out.now.items c.keys.out.items c.put.new.out.items
    c.put_word.new.out.items c.keys-test.true (c.keys.invariant r known time) c.in_ok-put.ensures
    (c.in_ok-put_word.ensures r known time)

pub returns : goal.returns
returns c = λ r known time.
    words_all c.args.keys.now c.keys.key-index r c.args.out.now.items c.keys.out.items c.keys-test.false
    (c.keys.invariant r known time)
