-- How many segments come.
use Rattle.std.proofs.Common.{◌≡◌, ℕ, ◌+◌, ◌*◌, ◌<◌, ◌≤◌, ◌^◌, List, [], ◌∷◌, ◌++◌, length, refl, sym, ap, subst}
use Rattle.std.proofs.Common.{arith, length-append, suc, zero}
use Rattle.std.proofs.Math.Nat.{le_of_mul-le-mul_right, mul-le-mul_right}
use Rattle.std.proofs.lemmas.Fmt.{length-decimal-le_succ}
use Rattle.std.specs.List.{AllByRecursion}
use Rattle.std.specs.Prelude.{decimal}
use Rattle.disk.specs.Memory.{shown_now}
use Rattle.disk.specs.States.{State}
use Rattle.archive_pages.specs.Paged.{at_most_all, entries_in}
use Rattle.archive_pages.specs.Pages.{joined}
use Rattle.archive_pages.specs.Spans.{blocks_of, entries_at, lists_of}
use Rattle.archive_pages.specs.declared.arena.Span.{Span}
use Rattle.archive_pages.specs.declared.paged.PagedArchive.{PagedArchive}
use Rattle.archive_text.specs.Entries.{Entry}
use Rattle.archive_text.specs.Text.{entry_text, text_of}
use Rattle.archive_text.specs.declared.limits.TheConstants.{ENTRY_MAX}
use Rattle.archive_text.proofs.Texts.{text_push}
use Rattle.record_store.specs.Names.{Counts}
use Rattle.record_store.specs.Segments.{GrowsBeside}
use Rattle.record_store.proofs.Remaining.{beside_less, beside_then, none_beside}
use Rattle.durable_store.specs.Segments.{KeepsAside}
use Rattle.durable_store.specs.Shares.{GrowsBy, IsShare}

-- ---- shares, where a count stays at the largest of 64 bits

pub share_whole : (total n : ℕ) → IsShare total (at_most_all n) → IsShare total n
share_whole total n share = omega (arith, share)

pub share_part : (total n : ℕ) → total < 2 ^ 64 → IsShare total n → IsShare total (at_most_all n)
share_part total n small share = omega (arith, small, share)

-- ---- beside a draft

pub aside_grow : (old new : State) (draft : List ℕ) → KeepsAside old new draft → ¬ (Counts draft)
    → GrowsBeside 0 old new
aside_grow old new draft aside apart =
    none_beside old new (λ name counts. ap shown_now (aside.others name (λ is. apart (subst Counts is counts))))

-- ---- segments that octets allow

pub grows_none : (total octets : ℕ) (old new : State) → GrowsBeside 0 old new → GrowsBy total octets old new
grows_none total octets old new grow = record {
  count = 0;
  grow = grow;
  shares = omega arith;
  some = omega arith;
}

pub nothing_grows : (total octets : ℕ) (state : State) → GrowsBy total octets state state
nothing_grows total octets state =
    grows_none total octets state state (none_beside state state (λ name counts. refl))

pub grows_one : (total octets : ℕ) (old new : State) → GrowsBeside 1 old new → IsShare total octets → 0 < octets
    → GrowsBy total octets old new
grows_one total octets old new grow share some = record {
  count = 1;
  grow = grow;
  shares = omega (arith, share);
  some = omega (arith, some);
}

pub grows_less : (total octets more : ℕ) (old new : State) → octets ≤ more → GrowsBy total octets old new
    → GrowsBy total more old new
grows_less total octets more old new less grows = record {
  count = grows.count;
  grow = grows.grow;
  shares = omega (arith, less, grows.shares);
  some = omega (arith, less, grows.some);
}

pub grows_then : (total octets more : ℕ) (a b c : State) → GrowsBy total octets a b → GrowsBy total more b c
    → GrowsBy total (octets + more) a c
grows_then total octets more a b c one other = record {
  count = one.count + other.count;
  grow = beside_then one.count other.count a b c one.grow other.grow;
  shares = omega (arith, one.shares, other.shares);
  some = omega (arith, one.some, other.some);
}

-- as many as have a 64th of all
pub grows_few : (total : ℕ) (old new : State) → GrowsBy total total old new → GrowsBeside 64 old new
grows_few zero old new grows = beside_less grows.count 64 old new (omega (arith, grows.some)) grows.grow
grows_few (suc n) old new grows =
    beside_less grows.count 64 old new (le_of_mul-le-mul_right {k = suc n} grows.shares (omega arith)) grows.grow

-- of a set
pub grows_set : (set : PagedArchive) (total : ℕ) → total ≡ length (text_of (entries_in set)) → (old new : State)
    → GrowsBy total (length (text_of (entries_in set))) old new → GrowsBeside 64 old new
grows_set set total same old new grows =
    grows_few total old new (subst (λ (n : ℕ). GrowsBy total n old new) (sym same) grows)

-- ---- the length of a text

pub first_counted : (len : ℕ) (e : Entry) → len ≡ at_most_all (length (entry_text e))
    → len ≡ at_most_all (length (text_of (e ∷ [])))
first_counted len e is = omega (arith, is, length-append (entry_text e) [])

-- one entry more
pub more_counted : (len more : ℕ) (es : List Entry) (e : Entry) → len ≡ at_most_all (length (text_of es))
    → more ≡ at_most_all (length (entry_text e)) → at_most_all (len + more) ≡ at_most_all (length (text_of (es ++ e ∷ [])))
more_counted len more es e is also =
    omega (arith, is, also, ap length (text_push es e), length-append (text_of es) (entry_text e))

pub entry_fits : (e : Entry) → length e.octets ≤ ENTRY_MAX → length (entry_text e) ≤ 2 ^ 21
entry_fits e fits =
    omega (
      arith,
      fits,
      length-append (decimal (length e.octets)) (32 ∷ e.octets),
      length-decimal-le_succ (length e.octets) (omega (arith, fits)),
    )

text_fits : (es : List Entry) → AllByRecursion (λ e. length e.octets ≤ ENTRY_MAX) es
    → length (text_of es) ≤ length es * 2 ^ 21
text_fits [] fits = omega arith
text_fits (e ∷ es) fits =
    omega (arith, entry_fits e fits.0, text_fits es fits.1, length-append (entry_text e) (text_of es))

lists_length : (blocks : List (List ℕ)) (spans : List Span) → length (entries_at blocks spans) ≡ length spans
lists_length blocks [] = refl
lists_length blocks (s ∷ spans) = omega (arith, lists_length blocks spans)

-- the octets of a set's archive are less than 2 ^ 64
pub set_fits : (set : PagedArchive) → length (text_of (entries_in set)) < 2 ^ 64
set_fits set =
    let count : length (entries_in set) ≤ 2 ^ 40 = omega (
      arith,
      set.few,
      set.counted,
      lists_length (blocks_of set.arena) (joined (lists_of set.pages.items)),
    ) in
    omega (arith, text_fits (entries_in set) set.paged.archive.fits, mul-le-mul_right (2 ^ 21) count)
