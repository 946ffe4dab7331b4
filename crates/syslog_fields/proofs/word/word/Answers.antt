use Rattle.std.proofs.Common.{◌≡◌, ◌≢◌, ◌<◌, ◌∷◌, [], length, sym, subst, refl, rules}
use Rattle.std.specs.Prelude.{Some, None}
use Rattle.std.proofs.lemmas.Bool.{false≢true}
use Rattle.syslog_fields.specs.Grammar.{Nilable, Word}
use Rattle.octet_language.specs.Language.{IfFirst}
use Rattle.syslog_fields.proofs.Runs.{escaped_rest}
use Rattle.syslog_fields.proofs.Words.{no_first, no_word}
use Rattle.syslog_fields.proofs.word.word.Goals as goal

pub returns-then-is_empty : goal.returns-then-is_empty
returns-then-is_empty g c =
    let f = c.printable_prefix.ensures in
    no_first g.row.N c.args.octets.now c.printable_prefix.result.0.now c.printable_prefix.result.1.now c.requires
    f.parts (search rules) f.ends

pub returns-in_default : goal.returns-in_default
returns-in_default g c =
    let f = c.printable_prefix.ensures in
    let e : c.printable_prefix.result.1.now ≡ [] = c.in_default.ensures in
    no_word g.row.N c.args.octets.now c.printable_prefix.result.0.now c.printable_prefix.result.1.now c.requires f.parts
    f.most f.printable f.ends (subst (IfFirst _) (sym e) tt)

pub returns-then-octet-ne32 : goal.returns-then-octet-ne32
returns-then-octet-ne32 g c =
    let f = c.printable_prefix.ensures in
    let e : c.printable_prefix.result.1.now ≡ c.in-Some.octet ∷ c.in-Some.rest.now = c.in-Some.ensures in
    no_word g.row.N c.args.octets.now c.printable_prefix.result.0.now c.printable_prefix.result.1.now c.requires f.parts
    f.most f.printable f.ends (subst (IfFirst (λ y. y ≡ 32 → length c.printable_prefix.result.0.now ≡ 0)) (sym e)
    (λ s. absurd (c.if-octet-ne32.true s)))

pub returns-then-is_nil : goal.returns-then-is_nil
returns-then-is_nil g c =
    let f = c.printable_prefix.ensures in
    let nil : c.printable_prefix.result.0.now ≡ 45 ∷ [] = search rules in
    escaped_rest (Nilable (Word g.row.N) None) c.args.octets.now c.printable_prefix.result.0.now
    c.printable_prefix.result.1.now c.in-Some.rest.now c.in-Some.octet 32 nil f.parts c.in-Some.ensures
    (search rules)

pub returns : goal.returns
returns g c =
    let f = c.printable_prefix.ensures in
    let w = c.printable_prefix.result.0.now in
    let some : 0 < length w = search rules in
    let apart : w ≢ 45 ∷ [] = λ e. false≢true (c.if-is_nil.ensures.1 e) in
    escaped_rest (Nilable (Word g.row.N) (Some w)) c.args.octets.now w c.printable_prefix.result.1.now
    c.in-Some.rest.now c.in-Some.octet 32 (
      record {
        some = some;
        fits = f.most;
        printable = f.printable;
        not_nil =
            apart;
      },
      refl,
    ) f.parts c.in-Some.ensures (search rules)
