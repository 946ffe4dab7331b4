use Rattle.std.proofs.Common.{◌≡◌, ◌++◌, ◌≤◌, ◌+◌, ◌∙◌, List, ℕ, length, take, arith}
use Rattle.std.proofs.Math.Seq.{take-append-add}
use Rattle.std.proofs.lemmas.List.{length-append, take_all}
use Rattle.progress.specs.Line.{line_text}
use Rattle.progress.proofs.pace.put_columns.Goals as goal

cut : (old text out : List ℕ) (before : ℕ) → before ≡ length old → out ≡ old ++ text → take (before + 79) out ≡ old ++ take 79 text
cut old text out before e f = rw (e, f) (take-append-add old text 79)

whole : (old text out : List ℕ) → out ≡ old ++ text → length out ≤ length old + 79 → out ≡ old ++ take 79 text
whole old text out e few = let short : length text ≤ 79 = omega (arith, rw (e, length-append) at few) in rw take_all e

pub returns-then-len-before-gt-COLUMNS_MAX-clause-ok : goal.returns-then-len-before-gt-COLUMNS_MAX-clause-ok
returns-then-len-before-gt-COLUMNS_MAX-clause-ok c =
    c.truncate.ensures.items
    ∙ cut c.args.out.now.items (line_text c.args.told) c.put_words.new.out.items c.len-before.result (omega (arith, c.len-before.ensures))
    c.in_ok-put_words.ensures.ok

pub returns-then-len-before-gt-COLUMNS_MAX-clause-err : goal.returns-then-len-before-gt-COLUMNS_MAX-clause-err
returns-then-len-before-gt-COLUMNS_MAX-clause-err c =
    (take 79 (line_text c.args.told), returns-then-len-before-gt-COLUMNS_MAX-clause-ok c)

pub returns-else-len-before-gt-COLUMNS_MAX-clause-ok : goal.returns-else-len-before-gt-COLUMNS_MAX-clause-ok
returns-else-len-before-gt-COLUMNS_MAX-clause-ok c =
    whole c.args.out.now.items (line_text c.args.told) c.put_words.new.out.items c.in_ok-put_words.ensures.ok (omega arith)
