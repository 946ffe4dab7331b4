-- Looks at a journal that grows.
use Rattle.std.proofs.Common.{◌≡◌, ℕ, List, [], ◌∷◌, ◌++◌, length, drop, refl, sym, ap, subst, ◌∙◌, arith}
use Rattle.std.proofs.Common.{append_assoc, length-append}
use Rattle.std.proofs.lemmas.List.{drop_at}
use Rattle.std.specs.List.{AllByRecursion}
use Rattle.archive_text.proofs.Members.{all_right}
use Rattle.archive_text.specs.Text.{text_of}
use Rattle.journal.specs.Batches.{HasBatches, IsBody, IsClosed, batches_text, open_batch}
use Rattle.journal.proofs.Readings.{same_batch}
use Rattle.record_store.proofs.Batches.{one_batch}
use Rattle.store_follow.specs.Batches.{AreBetween, BatchText, BatchTexts}
use Rattle.store_follow.specs.Laws.{AreLooks, Grows, IsBehind, Look, WroteEach, last_of, texts_of}
use Rattle.store_follow.proofs.Runs.{Bodies, text_append, texts_append}

-- ---- batches have one text

one_text_of : (body one other : List ℕ) → BatchText body one → BatchText body other → one ≡ other
one_text_of body one other a b =
    a.text_is ∙ ap text_of (one_batch a.entries b.entries body a.batch b.batch) ∙ sym b.text_is

pub one_text : (bodies : Bodies) (one other : List ℕ) → BatchTexts bodies one → BatchTexts bodies other → one ≡ other
one_text [] one other a b = a ∙ sym b
one_text (body ∷ bodies) one other (x, xs, x_is, xs_are, one_is) (y, ys, y_is, ys_are, other_is) =
    one_is ∙ ap (λ (l : List ℕ). l ++ xs) (one_text_of body x y x_is y_is)
    ∙ ap (λ (l : List ℕ). y ++ l) (one_text bodies xs ys xs_are ys_are) ∙ sym other_is

-- ---- a look

-- where batches and nothing open behind them begin as these do, they begin with these
goes_on : (behind bodies : Bodies) (tail rest : List ℕ) → IsClosed tail → AllByRecursion IsBody behind
    → AllByRecursion IsBody bodies → batches_text behind ++ tail ≡ batches_text bodies ++ rest
    → (left : Bodies) × (behind ≡ bodies ++ left)
goes_on behind [] tail rest closed sized are is = (behind, refl)
goes_on [] (body ∷ bodies) tail rest closed sized are is = absurd
    (closed body (batches_text bodies ++ rest) are.0 (is ∙ append_assoc (open_batch body) (batches_text bodies) rest))
goes_on (b ∷ behind) (body ∷ bodies) tail rest closed sized are is =
    let same = same_batch b body (batches_text behind ++ tail) (batches_text bodies ++ rest) sized.0 are.0
    (sym (append_assoc (open_batch b) (batches_text behind) tail) ∙ is
    ∙ append_assoc (open_batch body) (batches_text bodies) rest) in
    let more = goes_on behind bodies tail rest closed sized.1 are.1 same.1 in
    (more.0, ap (λ (x : List ℕ). x ∷ behind) same.0 ∙ ap (λ (xs : Bodies). body ∷ xs) more.1)

-- what comes at the offset behind the first batches
rest_is : (file : List ℕ) (at : ℕ) (before behind : Bodies) (h : IsBehind file at before behind)
    → drop at file ≡ batches_text behind ++ h.has.tail
rest_is file at before behind h =
    ap (drop at) (h.has.text ∙ ap (λ (l : List ℕ). l ++ h.has.tail) (text_append before behind)
    ∙ append_assoc (batches_text before) (batches_text behind) h.has.tail)
    ∙ drop_at (batches_text before) (batches_text behind ++ h.has.tail) at (sym h.at_is)

pub committed : (file : List ℕ) (at end : ℕ) (before behind bodies : Bodies) → IsBehind file at before behind
    → AreBetween file at end bodies
    → (left : Bodies) × (behind ≡ bodies ++ left) × IsBehind file end (before ++ bodies) left
committed file at end before behind bodies h b =
    let on = goes_on behind bodies h.has.tail (drop end file) h.has.closed (all_right IsBody before behind h.has.sized)
    b.sized (sym (rest_is file at before behind h) ∙ b.parts) in
    let all : before ++ behind ≡ (before ++ bodies) ++ on.0 =
    ap (λ (l : Bodies). before ++ l) on.1 ∙ sym (append_assoc before bodies on.0) in (
      on.0,
      on.1,
      record {
        has = subst (HasBatches file) all h.has;
        at_is = omega (
          arith,
          b.end_is,
          h.at_is,
          ap (λ (l : List ℕ). length l) (text_append before bodies),
          length-append (batches_text before) (batches_text bodies),
        );
      },
    )

-- ---- and others behind it

grown : (file next : List ℕ) (at : ℕ) (before behind : Bodies) → Grows file next → IsBehind file at before behind
    → (more : Bodies) × IsBehind next at before (behind ++ more)
grown file next at before behind grows h =
    let found = grows (before ++ behind) h.has in
    (found.0, record { has = subst (HasBatches next) (append_assoc before behind found.0) found.1; at_is = h.at_is })

none_left : (file : List ℕ) (at : ℕ) (before left : Bodies) → IsBehind file at before left → IsClosed (drop at file)
    → left ≡ []
none_left file at before [] h closed = refl
none_left file at before (body ∷ left) h closed = absurd
    (closed body (batches_text left ++ h.has.tail) (all_right IsBody before (body ∷ left) h.has.sized).0
    (rest_is file at before (body ∷ left) h ∙ append_assoc (open_batch body) (batches_text left) h.has.tail))

pub each_once : (first : Look) (looks : List Look) (before behind : Bodies) → AreLooks first looks
    → IsBehind first.file first.at before behind
    → WroteEach (last_of first looks).file (last_of first looks).end before (texts_of first looks)
each_once first [] before behind look h =
    let found = committed first.file first.at first.end before behind look.bodies h look.between in
    record {
      written = look.bodies;
      left = found.0;
      behind = found.2;
      texts = look.texts;
      all = λ closed. none_left first.file first.end (before ++ look.bodies) found.0 found.2 closed;
    }
each_once first (next ∷ looks) before behind (look, grows, goes, more) h =
    let found = committed first.file first.at first.end before behind look.bodies h look.between in
    let later = grown first.file next.file first.end (before ++ look.bodies) found.0 grows found.2 in
    let begins : IsBehind next.file next.at (before ++ look.bodies) (found.0 ++ later.0) =
    subst (λ (n : ℕ). IsBehind next.file n (before ++ look.bodies) (found.0 ++ later.0)) (sym goes) later.1 in
    let rest = each_once next looks (before ++ look.bodies) (found.0 ++ later.0) more begins in
    let end = (last_of next looks).end in
    let file = (last_of next looks).file in
    record {
      written = look.bodies ++ rest.written;
      left = rest.left;
      behind = subst (λ (l : Bodies). IsBehind file end l rest.left) (append_assoc before look.bodies rest.written)
          rest.behind;
      texts = texts_append look.bodies rest.written first.text (texts_of next looks) look.texts rest.texts;
      all = rest.all;
    }
