-- Steps of the loop over an input.
use Rattle.std.proofs.Common.{◌≡◌, ℕ, ◌+◌, ◌*◌, ◌≤◌, ◌<◌, List, [], ◌++◌, length, take, refl, ap, sym, subst, ◌∙◌}
use Rattle.std.proofs.Common.{append_assoc, append-nil, arith, inl, inr, Option, Some, Ok, Err}
use Rattle.std.proofs.KnownBytes.{Appends-trans, Consumes-kept, Consumes-nil, Consumes-trans}
use Rattle.std.proofs.Math.Nat.{mul-le-mul_left, mul-suc}
use Rattle.std.proofs.lemmas.List.{length-append, length-take-le}
use Rattle.std.specs.Io.KnownBytes.{Appends, Consumes}
use Rattle.octet_devices.specs.Device.{AreSmall, Gave, InputState, OutputState, ReadFailed}
use Rattle.octet_devices.specs.Transfers.{WroteAll}
use Rattle.driver.specs.Devices.{Devices, IsLeft}
use Rattle.driver.specs.Effects.{Done, IsPrefixOf, nothing, then_done, written}
use Rattle.driver.specs.Holding.{FlushFailed, Flushed, ReadThrough, Reached, StopsHolding}
use Rattle.driver.specs.Run.{AreLawful, ComesOf, Limits, Used, WritesPrefix}
use Rattle.driver.specs.Sessions.{HasOneOutput, Meaning, most_octets, with_rest}
use Rattle.driver.specs.declared.stopped.Stopped.{Stopped}
use Rattle.driver.specs.declared.stopped.Stopped.TheVariants.{Diagnostics, Endless, Memory, Read, Write}
use Rattle.driver.proofs.Known.{call_more, consumes_split, is_left_at_end, is_left_more, is_left_same, wrote_nothing, wrote_then}

-- ---- what was written is a prefix of the right output

-- what was done is a prefix of what comes of the whole input
abbrev pub Leads : Meaning → Option (List ℕ) → Done → Type 0
Leads M left total = HasOneOutput M → (input : List ℕ) (d : Done) → left ≡ Some input → M.whole input d
    → IsPrefixOf total.output d.output

pub leads_so_far : (M : Meaning) (a b : Option (List ℕ)) (given : List ℕ) (total : Done) → Consumes a b given
    → M.so_far given total → Leads M a total
leads_so_far M a b given total consumed means = λ laws input d known whole.
    let split = consumes_split a b given input known consumed in
    laws.grows given split.0 total d means (subst (λ xs. M.whole xs d) split.1 whole)

pub leads_part : (M : Meaning) (a b : Option (List ℕ)) (given : List ℕ) (total : Done) → Consumes a b given
    → M.part given total → Leads M a total
leads_part M a b given total consumed means = λ laws input d known whole.
    let split = consumes_split a b given input known consumed in
    laws.begins given split.0 total d means (subst (λ xs. M.whole xs d) split.1 whole)

pub leads_answer : (M : Meaning) (a : Option (List ℕ)) (input : List ℕ) (total : Done) → IsLeft a input
    → M.whole input total → Leads M a total
leads_answer M a input total is means = λ laws other d known whole.
    let same = is_left_same a input other known is in
    ([], sym (laws.one input total d means (subst (λ xs. M.whole xs d) same whole)) ∙ sym (append-nil total.output))

pub prefix_from : (M : Meaning) (old new : Devices) (total : Done) (sent rest : List ℕ) → Leads M old.input.left total
    → total.output ≡ sent ++ rest → Appends old.output.taken new.output.taken sent
    → HasOneOutput M → WritesPrefix M old new
prefix_from M old new total sent rest leads split wrote laws = λ input d known whole.
    let p = leads laws input d known whole in
    (sent, (rest ++ p.0, p.1 ∙ ap (λ xs. xs ++ p.0) split ∙ append_assoc sent rest p.0), wrote)

-- of what was done the held part is not yet written
pub prefix_held : (M : Meaning) (old new : Devices) (held : Done) (output diagnostics : List ℕ)
    → Leads M old.input.left (then_done (written output diagnostics) held)
    → WroteAll old.output new.output output → HasOneOutput M → WritesPrefix M old new
prefix_held M old new held output diagnostics leads wrote =
    prefix_from M old new (then_done (written output diagnostics) held) output held.output leads refl wrote.octets

-- nor is the rest of the output
pub prefix_rest : (M : Meaning) (old new : Devices) (held : Done) (output diagnostics rest : List ℕ)
    → Leads M old.input.left (with_rest (then_done (written output diagnostics) held) rest)
    → WroteAll old.output new.output output → HasOneOutput M → WritesPrefix M old new
prefix_rest M old new held output diagnostics rest leads wrote =
    prefix_from M old new (with_rest (then_done (written output diagnostics) held) rest) output (held.output ++ rest)
    leads (append_assoc output held.output rest) wrote.octets

-- ---- how the input was used

-- the loop between two calls: how the session stands, and how many octets it was given in so many calls
pub record Stage (L : Limits) (S : List ℕ → Type 0) (M : Meaning) (turn : ℕ) (given : List ℕ) (d : Done) : Type 0 where
  pub stands : S given
  pub so_far : M.so_far given d
  pub turns : turn ≤ length given
  pub few : length given ≤ L.octets * turn

-- an input that did not fail: its last call gave the last part
pub used_gave : (L : Limits) (M : Meaning) (old new : InputState) (turn : ℕ) (given last : List ℕ) (d : Done) → M.so_far given d
    → turn ≤ length given → turn < L.calls → Consumes old.left new.left (given ++ last) → length last ≤ L.octets
    → (AreSmall old → new.calls ≤ old.calls + turn + 1) → new.ends ≤ old.ends + 1 → new.failures ≡ old.failures
    → Used L M old new
used_gave L M old new turn given last d means turns in_time consumed few calls ends same = record {
  calls = λ small. omega (arith, calls small, in_time);
  ends = ends;
  ended = λ _. same;
  needed = λ small.
      record {
        before = given;
        last = last;
        done = d;
        consumed = consumed;
        means = means;
        few = few;
        each = omega (arith, calls small, turns);
      };
  failed = λ h. absurd (omega (arith, h, same));
}

-- an input that failed
pub used_failed : (L : Limits) (M : Meaning) (old new : InputState) (turn : ℕ) (given : List ℕ) (d : Done) → M.so_far given d
    → turn ≤ length given → turn < L.calls → Consumes old.left new.left given
    → (AreSmall old → new.calls ≤ old.calls + turn + 1) → new.ends ≡ old.ends → Used L M old new
used_failed L M old new turn given d means turns in_time consumed calls ends = record {
  calls = λ small. omega (arith, calls small, in_time);
  ends = omega (arith, ends);
  ended = λ h. absurd (omega (arith, h, ends));
  needed = λ small.
      record {
        before = given;
        last = [];
        done = d;
        consumed = subst (Consumes old.left new.left) (sym (append-nil given)) consumed;
        means = means;
        few = omega arith;
        each = omega (arith, calls small, turns);
      };
  failed = λ _. record { given = given; done = d; consumed = consumed; means = means };
}

-- an input that was called the most often
pub used_up : (L : Limits) (M : Meaning) (old new : InputState) (turn : ℕ) (given : List ℕ) (d : Done) → M.so_far given d
    → turn ≤ length given → turn ≤ L.calls → Consumes old.left new.left given
    → (AreSmall old → new.calls ≡ old.calls + turn) → new.ends ≡ old.ends → new.failures ≡ old.failures → Used L M old new
used_up L M old new turn given d means turns in_time consumed calls ends same = record {
  calls = λ small. omega (arith, calls small, in_time);
  ends = omega (arith, ends);
  ended = λ _. same;
  needed = λ small.
      record {
        before = given;
        last = [];
        done = d;
        consumed = subst (Consumes old.left new.left) (sym (append-nil given)) consumed;
        means = means;
        few = omega arith;
        each = omega (arith, calls small, turns);
      };
  failed = λ h. absurd (omega (arith, h, same));
}

-- ---- a turn

-- the devices of a turn whose input was called
abbrev pub with_input : Devices → InputState → Devices
with_input d i = record { input = i; output = d.output; diagnostics = d.diagnostics }

pub started : (L : Limits) (M : Meaning) (S : List ℕ → Type 0) (old : Devices) (held : Done) → S [] → M.so_far [] nothing
    → held ≡ nothing → Reached (Stage L S M 0) old old held
started L M S old held stands so_far none = record {
  given = [];
  output = [];
  diagnostics = [];
  consumed = Consumes-nil old.input.left;
  means = record {
    stands = stands;
    so_far = subst (λ (d : Done). M.so_far [] (then_done (written [] []) d)) (sym none) so_far;
    turns = omega arith;
    few = omega arith;
  };
  wrote = record {
    to_output = wrote_nothing old.output;
    to_diagnostics = wrote_nothing old.diagnostics;
  };
}

-- the octets of a piece
pub piece_given : (i j : InputState) (buf : List ℕ) (n : ℕ) (a : Option (List ℕ)) (given : List ℕ)
    → Consumes a i.left given → Gave i j buf n → Consumes a j.left (given ++ take n buf)
piece_given i j buf n a given consumed gave = Consumes-trans a i.left j.left _ _ consumed gave.octets

-- the input failed
pub at_failure : {A : Type 0} (L : Limits) (M : Meaning) (S : List ℕ → Type 0) (old mid : Devices) (i : InputState) (held : Done)
    (turn : ℕ) (rest : List ℕ) → Reached (Stage L S M turn) old mid held → turn < L.calls
    → (AreSmall old.input → mid.input.calls ≡ old.input.calls + turn) → mid.input.failures ≡ old.input.failures
    → mid.input.ends ≡ old.input.ends → ReadFailed mid.input i
    → ReadThrough {A = A} L M old (with_input mid i) held rest (Err Read)
at_failure {A} L M S old mid i held turn rest r in_time calls sound ends failed =
    let consumed = Consumes-kept _ _ _ _ r.consumed failed.octets in
    let s = r.means in
    record {
      outcome = (
        λ small. omega (arith, failed.failed, sound, small.1),
        record {
          given = r.given;
          output = r.output;
          diagnostics = r.diagnostics;
          consumed = consumed;
          means = s.so_far;
          wrote = record { to_output = r.wrote.to_output; to_diagnostics = r.wrote.to_diagnostics };
        },
      );
      begins = prefix_held M old (with_input mid i) held r.output r.diagnostics
          (leads_so_far M _ i.left r.given (then_done (written r.output r.diagnostics) held) consumed s.so_far)
          r.wrote.to_output;
      used = used_failed L M old.input i turn r.given (then_done (written r.output r.diagnostics) held) s.so_far s.turns
          in_time consumed (λ small. call_more _ _ _ _ (calls small) failed.counted) (failed.no_end ∙ ends);
    }

-- the input was called the most often, and gave no end
pub at_last : {A : Type 0} (L : Limits) (M : Meaning) (S : List ℕ → Type 0) (old mid : Devices) (held : Done) (turn : ℕ)
    (rest : List ℕ) → Reached (Stage L S M turn) old mid held → turn ≡ L.calls
    → (AreSmall old.input → mid.input.calls ≡ old.input.calls + turn) → mid.input.failures ≡ old.input.failures
    → mid.input.ends ≡ old.input.ends → ReadThrough {A = A} L M old mid held rest (Err Endless)
at_last {A} L M S old mid held turn rest r last calls sound ends =
    let s = r.means in
    record {
      outcome = (
        record { calls = λ small. omega (arith, calls small, last); no_failure = sound; no_end = ends },
        record {
          given = r.given;
          output = r.output;
          diagnostics = r.diagnostics;
          consumed = r.consumed;
          means = s.so_far;
          wrote = record { to_output = r.wrote.to_output; to_diagnostics = r.wrote.to_diagnostics };
        },
      );
      begins = prefix_held M old mid held r.output r.diagnostics
          (leads_so_far M _ mid.input.left r.given (then_done (written r.output r.diagnostics) held) r.consumed s.so_far)
          r.wrote.to_output;
      used = used_up L M old.input mid.input turn r.given (then_done (written r.output r.diagnostics) held) s.so_far
          s.turns (omega (arith, last)) r.consumed calls ends sound;
    }

-- a call that gave octets or the end
pub used_turn : (L : Limits) (M : Meaning) (S : List ℕ → Type 0) (old mid : Devices) (i : InputState) (held : Done) (turn n : ℕ)
    (buf : List ℕ) → Reached (Stage L S M turn) old mid held → turn < L.calls → length buf ≡ L.octets
    → (AreSmall old.input → mid.input.calls ≡ old.input.calls + turn) → mid.input.failures ≡ old.input.failures
    → mid.input.ends ≡ old.input.ends → Gave mid.input i buf n → i.ends ≤ old.input.ends + 1 → Used L M old.input i
used_turn L M S old mid i held turn n buf r in_time room calls sound ends gave few_ends =
    let s = r.means in
    used_gave L M old.input i turn r.given (take n buf) (then_done (written r.output r.diagnostics) held) s.so_far s.turns
    in_time (piece_given _ _ _ _ _ _ r.consumed gave)
    (omega (arith, length-take-le n buf gave.within, gave.within, room))
    (λ small. call_more _ _ _ _ (calls small) gave.counted) few_ends (gave.no_failure ∙ sound)

-- the input ended, and the session with it
pub at_end : {A : Type 0} (L : Limits) (M : Meaning) (S : List ℕ → Type 0) (old mid : Devices) (i : InputState) (held after : Done)
    (turn n : ℕ) (buf rest : List ℕ) (x : A) → (r : Reached (Stage L S M turn) old mid held) → 0 < L.octets → turn < L.calls
    → length buf ≡ L.octets → (AreSmall old.input → mid.input.calls ≡ old.input.calls + turn)
    → mid.input.failures ≡ old.input.failures → mid.input.ends ≡ old.input.ends → Gave mid.input i buf n → n ≡ 0
    → M.whole r.given (with_rest (then_done (written r.output r.diagnostics) after) rest)
    → ReadThrough {A = A} L M old (with_input mid i) after rest (Ok x)
at_end {A} L M S old mid i held after turn n buf rest x r some in_time room calls sound ends gave none means =
    let few_ends : i.ends ≤ old.input.ends + 1 = omega (arith, gave.ended none (omega (arith, room, some)), ends) in
    let nil : take n buf ≡ [] = rw none refl in
    let all : Consumes old.input.left i.left r.given =
    subst (Consumes old.input.left i.left) (ap (λ xs. r.given ++ xs) nil ∙ append-nil r.given)
    (piece_given _ _ _ _ _ _ r.consumed gave) in
    let is : IsLeft old.input.left r.given = is_left_at_end _ _ _ all (gave.at_end none (omega (arith, room, some))) in
    record {
      outcome = record {
        input = r.given;
        output = r.output;
        diagnostics = r.diagnostics;
        is_input = is;
        means = means;
        wrote = record { to_output = r.wrote.to_output; to_diagnostics = r.wrote.to_diagnostics };
        no_failure = gave.no_failure ∙ sound;
      };
      begins = prefix_rest M old (with_input mid i) after r.output r.diagnostics rest
          (leads_answer M _ r.given (with_rest (then_done (written r.output r.diagnostics) after) rest) is means)
          r.wrote.to_output;
      used = used_turn L M S old mid i held turn n buf r in_time room calls sound ends gave few_ends;
    }

-- the end was given, and memory ran out
pub at_end_memory : {A : Type 0} (L : Limits) (M : Meaning) (S : List ℕ → Type 0) (old mid : Devices) (i : InputState)
    (held after : Done) (turn n : ℕ) (buf rest : List ℕ) → (r : Reached (Stage L S M turn) old mid held)
    → 0 < L.octets → turn < L.calls
    → length buf ≡ L.octets → (AreSmall old.input → mid.input.calls ≡ old.input.calls + turn)
    → mid.input.failures ≡ old.input.failures → mid.input.ends ≡ old.input.ends → Gave mid.input i buf n → n ≡ 0
    → M.part r.given (then_done (written r.output r.diagnostics) after)
    → ReadThrough {A = A} L M old (with_input mid i) after rest (Err Memory)
at_end_memory {A} L M S old mid i held after turn n buf rest r some in_time room calls sound ends gave none means =
    let few_ends : i.ends ≤ old.input.ends + 1 = omega (arith, gave.ended none (omega (arith, room, some)), ends) in
    let nil : take n buf ≡ [] = rw none refl in
    let all : Consumes old.input.left i.left r.given =
    subst (Consumes old.input.left i.left) (ap (λ xs. r.given ++ xs) nil ∙ append-nil r.given)
    (piece_given _ _ _ _ _ _ r.consumed gave) in
    record {
      outcome = (
        gave.no_failure ∙ sound,
        record {
          given = r.given;
          output = r.output;
          diagnostics = r.diagnostics;
          consumed = all;
          means = means;
          wrote = record { to_output = r.wrote.to_output; to_diagnostics = r.wrote.to_diagnostics };
        },
      );
      begins = prefix_held M old (with_input mid i) after r.output r.diagnostics
          (leads_part M _ i.left r.given (then_done (written r.output r.diagnostics) after) all means) r.wrote.to_output;
      used = used_turn L M S old mid i held turn n buf r in_time room calls sound ends gave few_ends;
    }

-- a piece was given, and memory ran out
pub at_memory : {A : Type 0} (L : Limits) (M : Meaning) (S : List ℕ → Type 0) (old mid : Devices) (i : InputState)
    (held after : Done) (turn n : ℕ) (buf rest : List ℕ) → (r : Reached (Stage L S M turn) old mid held)
    → turn < L.calls
    → length buf ≡ L.octets → (AreSmall old.input → mid.input.calls ≡ old.input.calls + turn)
    → mid.input.failures ≡ old.input.failures → mid.input.ends ≡ old.input.ends → Gave mid.input i buf n → 0 < n
    → M.part (r.given ++ take n buf) (then_done (written r.output r.diagnostics) after)
    → ReadThrough {A = A} L M old (with_input mid i) after rest (Err Memory)
at_memory {A} L M S old mid i held after turn n buf rest r in_time room calls sound ends gave some means =
    let all = piece_given _ _ _ _ _ _ r.consumed gave in
    record {
      outcome = (
        gave.no_failure ∙ sound,
        record {
          given = r.given ++ take n buf;
          output = r.output;
          diagnostics = r.diagnostics;
          consumed = all;
          means = means;
          wrote = record { to_output = r.wrote.to_output; to_diagnostics = r.wrote.to_diagnostics };
        },
      );
      begins = prefix_held M old (with_input mid i) after r.output r.diagnostics
          (leads_part M _ i.left (r.given ++ take n buf) (then_done (written r.output r.diagnostics) after) all means)
          r.wrote.to_output;
      used = used_turn L M S old mid i held turn n buf r in_time room calls sound ends gave
          (omega (arith, gave.no_end some, ends));
    }

-- the session needs no more of the input
pub at_finish : {A : Type 0} (L : Limits) (M : Meaning) (S : List ℕ → Type 0) (old mid : Devices) (i : InputState)
    (held after : Done) (turn n : ℕ) (buf rest : List ℕ) (x : A) → (r : Reached (Stage L S M turn) old mid held)
    → turn < L.calls → length buf ≡ L.octets → (AreSmall old.input → mid.input.calls ≡ old.input.calls + turn)
    → mid.input.failures ≡ old.input.failures → mid.input.ends ≡ old.input.ends → Gave mid.input i buf n → 0 < n
    → ((more : List ℕ) → M.whole ((r.given ++ take n buf) ++ more)
    (with_rest (then_done (written r.output r.diagnostics) after) rest))
    → ReadThrough {A = A} L M old (with_input mid i) after rest (Ok x)
at_finish {A} L M S old mid i held after turn n buf rest x r in_time room calls sound ends gave some means =
    let all = piece_given _ _ _ _ _ _ r.consumed gave in
    let left = is_left_more _ _ _ all in
    record {
      outcome = record {
        input = (r.given ++ take n buf) ++ left.0;
        output = r.output;
        diagnostics = r.diagnostics;
        is_input = left.1;
        means = means left.0;
        wrote = record { to_output = r.wrote.to_output; to_diagnostics = r.wrote.to_diagnostics };
        no_failure = gave.no_failure ∙ sound;
      };
      begins = prefix_rest M old (with_input mid i) after r.output r.diagnostics rest
          (leads_answer M _ ((r.given ++ take n buf) ++ left.0)
          (with_rest (then_done (written r.output r.diagnostics) after) rest) left.1 (means left.0)) r.wrote.to_output;
      used = used_turn L M S old mid i held turn n buf r in_time room calls sound ends gave
          (omega (arith, gave.no_end some, ends));
    }

-- what was done, where some of it was written in two steps
pub moved : (a b c d : List ℕ) (kept : Done)
    → then_done (written a b) (then_done (written c d) kept) ≡ then_done (written (a ++ c) (b ++ d)) kept
moved a b c d kept = simp append_assoc

-- the octets of a turn are few
pub few_more : (L : Limits) (turn n : ℕ) (given buf : List ℕ) → length given ≤ L.octets * turn → n ≤ length buf
    → length buf ≡ L.octets → length (given ++ take n buf) ≤ L.octets * (turn + 1)
few_more L turn n given buf few within room = omega (
  arith,
  length-append given (take n buf),
  length-take-le n buf within,
  few,
  within,
  room,
  mul-suc L.octets turn,
)

pub few_octets : (L : Limits) (turn n : ℕ) (given buf : List ℕ) → AreLawful L → length given ≤ L.octets * turn
    → turn < L.calls → n ≤ length buf → length buf ≡ L.octets → length given + length (take n buf) ≤ most_octets
few_octets L turn n given buf lawful few in_time within room =
    let all : L.octets * (turn + 1) ≤ L.octets * L.calls = mul-le-mul_left L.octets (omega (arith, in_time)) in
    omega (arith, length-take-le n buf within, few, within, room, mul-suc L.octets turn, all, lawful.fits)

-- the session goes on, and some of what is held back was written
pub turned : (L : Limits) (M : Meaning) (S R : List ℕ → Type 0) (old mid : Devices) (i : InputState) (o d : OutputState)
    (held after kept : Done) (turn n : ℕ) (buf : List ℕ) → (r : Reached (Stage L S M turn) old mid held)
    → length buf ≡ L.octets → Gave mid.input i buf n → 0 < n → R (r.given ++ take n buf)
    → M.so_far (r.given ++ take n buf) (then_done (written r.output r.diagnostics) after)
    → Flushed mid.output mid.diagnostics o d after kept
    → Reached (Stage L R M (turn + 1)) old (record { input = i; output = o; diagnostics = d }) kept
turned L M S R old mid i o d held after kept turn n buf r room gave some stands means f = record {
  given = r.given ++ take n buf;
  output = r.output ++ f.output;
  diagnostics = r.diagnostics ++ f.diagnostics;
  consumed = piece_given _ _ _ _ _ _ r.consumed gave;
  means = record {
    stands = stands;
    so_far = subst (λ (x : Done). M.so_far (r.given ++ take n buf) x)
        (ap (λ (x : Done). then_done (written r.output r.diagnostics) x) f.whole
        ∙ moved r.output r.diagnostics f.output f.diagnostics kept) means;
    turns = omega
        (arith, length-append r.given (take n buf), length-take-le n buf gave.within, some, r.means.turns);
    few = few_more L turn n r.given buf r.means.few gave.within room;
  };
  wrote = record {
    to_output = wrote_then _ _ _ _ _ r.wrote.to_output f.to_output;
    to_diagnostics = wrote_then _ _ _ _ _ r.wrote.to_diagnostics f.to_diagnostics;
  };
}

-- a text in the middle is cut in two
regrouped : (a b c d e : List ℕ) → b ≡ c ++ d → (a ++ b) ++ e ≡ (a ++ c) ++ (d ++ e)
regrouped a b c d e is = rw is (simp append_assoc)

-- what a failed flush is as a stop, where this comes of the octets that were read
pub flush_stops : (L : Limits) (M : Meaning) (old new : Devices) (o n : OutputState) (held kept total : Done) (stop : Stopped)
    (out notes more : List ℕ) → WroteAll old.output o out → WroteAll old.diagnostics n notes
    → ComesOf M old.input new.input total → total.output ≡ (out ++ held.output) ++ more
    → total.diagnostics ≡ notes ++ held.diagnostics
    → FlushFailed o n new.output new.diagnostics held stop → StopsHolding L stop M old new kept
flush_stops L M old new o n held kept total Read out notes more a b comes whole lines f = absurd f.cause
flush_stops L M old new o n held kept total Endless out notes more a b comes whole lines f = absurd f.cause
flush_stops L M old new o n held kept total Write out notes more a b comes whole lines f = record {
  failed = λ small. omega (arith, a.no_failure, f.cause.0 (omega (arith, a.no_failure, small)));
  done = total;
  sent = out ++ f.sent;
  unsent = f.rest ++ more;
  comes = comes;
  parts = whole ∙ regrouped out held.output f.sent f.rest more f.begins;
  some_left = omega (arith, length-append f.rest more, f.cause.2);
  to_output = Appends-trans _ _ _ _ _ a.octets f.to_output;
  to_diagnostics = subst (WroteAll old.diagnostics new.diagnostics)
      (sym (ap (λ (xs : List ℕ). xs ++ []) lines ∙ append-nil (notes ++ held.diagnostics)))
      (wrote_then _ _ _ _ _ b f.cause.1);
}
flush_stops L M old new o n held kept total Diagnostics out notes more a b comes whole lines f =
    λ small. omega (arith, b.no_failure, f.cause (omega (arith, b.no_failure, small)))
flush_stops L M old new o n held kept total Memory out notes more a b comes whole lines f = absurd f.cause

-- the session goes on, and what is held back cannot be written
pub flush_fails : {A : Type 0} (L : Limits) (M : Meaning) (S : List ℕ → Type 0) (old mid : Devices) (i : InputState)
    (o d : OutputState) (held after kept : Done) (turn n : ℕ) (buf rest : List ℕ) (stop : Stopped)
    → (r : Reached (Stage L S M turn) old mid held) → turn < L.calls → length buf ≡ L.octets
    → (AreSmall old.input → mid.input.calls ≡ old.input.calls + turn) → mid.input.failures ≡ old.input.failures
    → mid.input.ends ≡ old.input.ends → Gave mid.input i buf n → 0 < n
    → M.so_far (r.given ++ take n buf) (then_done (written r.output r.diagnostics) after)
    → FlushFailed mid.output mid.diagnostics o d after stop
    → ReadThrough {A = A} L M old (record { input = i; output = o; diagnostics = d }) kept rest (Err stop)
flush_fails {A} L M S old mid i o d held after kept turn n buf rest stop r in_time room calls sound ends gave some means f =
    let all = piece_given _ _ _ _ _ _ r.consumed gave in
    record {
      outcome = flush_stops L M old (record { input = i; output = o; diagnostics = d }) mid.output mid.diagnostics after
          kept (then_done (written r.output r.diagnostics) after) stop r.output r.diagnostics [] r.wrote.to_output
          r.wrote.to_diagnostics (inr (r.given ++ take n buf, all, inl means))
          (sym (append-nil (r.output ++ after.output))) refl f;
      begins = prefix_from M old (record { input = i; output = o; diagnostics = d })
          (then_done (written r.output r.diagnostics) after) (r.output ++ f.sent) f.rest
          (leads_so_far M _ i.left (r.given ++ take n buf) (then_done (written r.output r.diagnostics) after) all means)
          (ap (λ xs. r.output ++ xs) f.begins ∙ sym (append_assoc r.output f.sent f.rest))
          (Appends-trans _ _ _ _ _ r.wrote.to_output.octets f.to_output);
      used = used_turn L M S old mid i held turn n buf r in_time room calls sound ends gave
          (omega (arith, gave.no_end some, ends));
    }
