-- Steps of a choice.
use Rattle.std.proofs.Common.{◌≡◌, ℕ, List, [], ◌∷◌, ◌++◌, refl, sym, ap, subst, ◌∙◌, Bool, true, false, append_assoc, append-nil, Option, Some, None, Result, Ok, Err, inl, length, arith}
use Rattle.std.proofs.lemmas.Grind.{flat_map-append}
use Rattle.std.specs.Prelude.{◌||◌, ◌==◌, OnOk}
use Rattle.std.proofs.lemmas.Bool.{eqb-false, ne_eqb}
use Rattle.std.proofs.Math.ListN.{drop_of_length-le}
use Rattle.archive_text.specs.Faults.{IsBadFrame, IsCountedFirst}
use Rattle.archive_text.proofs.Members.{all_append}
use Rattle.syslog_frame.proofs.FrameLaws.{NoPrefix-nil, unique_frames}
use Rattle.driver.specs.Sessions.{with_rest}
use Rattle.record_choice.proofs.Texts.{no_whole}
use Rattle.syslog_frame.specs.Frames.{CanCarry, Frames, framed}
use Rattle.syslog_frame.specs.declared.framing.Framing.TheVariants.{Counted}
use Rattle.driver.specs.Effects.{Done, then_done, written}
use Rattle.record_choice.specs.Choices.{AreChosen, Choice, FirstChoice, frames_text, is_cut, last_of, wanted, kept_late, written_early}
use Rattle.record_choice.specs.Choosing.{Chooses, ChoosesAll, ChoosesFirst, ChoosesSome, StandsAt}
use Rattle.record_choice.specs.Kept.{frames_in, kept_in, limit_of, most_of}
use Rattle.record_choice.specs.declared.last_frames.LastFrames.{LastFrames}
use Rattle.record_choice.proofs.Lists.{chosen_append, chosen_unique, last_append}

or_false : (a : Bool) → (a || false) ≡ a
or_false true = refl
or_false false = refl

-- output behind output
pub then_written : (b : Done) (x y : List ℕ)
    → then_done (then_done b (written x [])) (written y []) ≡ then_done b (written (x ++ y) [])
then_written b x y = simp (append_assoc, append-nil, or_false)

pub then_nothing : (b : Done) → then_done b (written [] []) ≡ b
then_nothing b = simp (append-nil, or_false)

pub early_append : (limit : Option ℕ) (cs ds : List (List ℕ))
    → written_early limit (cs ++ ds) ≡ written_early limit cs ++ written_early limit ds
early_append None cs ds = flat_map-append (framed Counted) cs ds
early_append (Some n) cs ds = refl

pub early_nothing : (limit : Option ℕ) → written_early limit [] ≡ []
early_nothing None = refl
early_nothing (Some n) = refl

-- nothing was chosen from
pub chooses_nothing : (P : List ℕ → Type 0) (last : Option LastFrames) (b : Done) → Chooses P last last b b []
chooses_nothing P last b = record {
  chosen = [];
  chosen_are = refl;
  done = sym (ap (λ (xs : List ℕ). then_done b (written xs [])) (early_nothing (limit_of last)) ∙ then_nothing b);
  limit = refl;
  kept = λ cs h. h ∙ ap (λ xs. kept_late (limit_of last) xs) (sym (append-nil cs));
}

-- first from these frames, and then from those
pub chooses_then : (P : List ℕ → Type 0) (old mid new : Option LastFrames) (a b c : Done) (fs gs : List (List ℕ))
    → Chooses P old mid a b fs → Chooses P mid new b c gs → Chooses P old new a c (fs ++ gs)
chooses_then P old mid new a b c fs gs h k = record {
  chosen = h.chosen ++ k.chosen;
  chosen_are = chosen_append P fs gs h.chosen k.chosen h.chosen_are k.chosen_are;
  done = k.done
      ∙ (ap (λ limit. then_done b (written (written_early limit k.chosen) [])) h.limit
      ∙ (ap (λ (x : Done). then_done x (written (written_early (limit_of old) k.chosen) [])) h.done
      ∙ (then_written a (written_early (limit_of old) h.chosen) (written_early (limit_of old) k.chosen)
      ∙ ap (λ (xs : List ℕ). then_done a (written xs [])) (sym (early_append (limit_of old) h.chosen k.chosen)))));
  limit = k.limit ∙ h.limit;
  kept = λ cs is.
      k.kept (cs ++ h.chosen) (h.kept cs is ∙ ap (λ limit. kept_late limit (cs ++ h.chosen)) (sym h.limit))
      ∙ (ap (λ limit. kept_late limit ((cs ++ h.chosen) ++ k.chosen)) h.limit
      ∙ ap (λ xs. kept_late (limit_of old) xs) (append_assoc cs h.chosen k.chosen));
}

pub on_ok_map : {A E : Type 0} (r : Result A E) (P Q : Type 0) → (P → Q) → OnOk r P → OnOk r Q
on_ok_map (Ok x) P Q f h = f h
on_ok_map (Err e) P Q f h = h

-- a frame that passes was written
pub chose_written : (P : List ℕ → Type 0) (last : Option LastFrames) (b : Done) (out frame : List ℕ) → last ≡ None → P frame
    → out ≡ b.output ++ framed Counted frame
    → Chooses P last last b (record { refused = b.refused; output = out; diagnostics = b.diagnostics }) (frame ∷ [])
chose_written P last b out frame none p is = rw none (record {
  chosen = frame ∷ [];
  chosen_are = inl (p, ([], refl, refl));
  done = rw is (simp (append-nil, or_false));
  limit = refl;
  kept = λ cs h. refl;
})

-- it was kept
pub chose_kept : (P : List ℕ → Type 0) (old : Option LastFrames) (l n : LastFrames) (b : Done) (frame : List ℕ)
    → old ≡ Some l → P frame → frames_in n ≡ last_of (most_of l) (frames_in l ++ frame ∷ []) → most_of n ≡ most_of l
    → Chooses P old (Some n) b b (frame ∷ [])
chose_kept P old l n b frame some p last most = rw some (record {
  chosen = frame ∷ [];
  chosen_are = inl (p, ([], refl, refl));
  done = sym (then_nothing b);
  limit = ap (λ m. Some m) most;
  kept = λ cs h. last ∙ (ap (λ xs. last_of (most_of l) (xs ++ frame ∷ [])) h
      ∙ last_append (most_of l) cs (frame ∷ []));
})

-- ---- the frames of a text

pub first_nothing : (P : List ℕ → Type 0) (last : Option LastFrames) (b : Done) (text : List ℕ)
    → ChoosesFirst P last last b b text text
first_nothing P last b text =
    record { frames = []; whole = refl; each = tt; chooses = chooses_nothing P last b }

pub first_more : (P : List ℕ → Type 0) (old mid new : Option LastFrames) (a b c : Done) (most : ℕ)
    (text rest frame behind : List ℕ) → ChoosesFirst P old mid a b text rest → IsCountedFirst most rest frame behind
    → Chooses P mid new b c (frame ∷ []) → ChoosesFirst P old new a c text behind
first_more P old mid new a b c most text rest frame behind h first k = record {
  frames = h.frames ++ frame ∷ [];
  whole = h.whole ∙ (ap (λ xs. frames_text h.frames ++ xs) first.parts
      ∙ (sym (append_assoc (frames_text h.frames) (framed Counted frame) behind)
      ∙ ap (λ xs. xs ++ behind) (ap (λ xs. frames_text h.frames ++ xs) (sym (append-nil (framed Counted frame)))
      ∙ sym (flat_map-append (framed Counted) h.frames (frame ∷ [])))));
  each = all_append (CanCarry Counted) h.frames (frame ∷ []) h.each (first.carries, tt);
  chooses = chooses_then P old mid new a b c h.frames (frame ∷ []) h.chooses k;
}

pub first_some : (P : List ℕ → Type 0) (old mid : Option LastFrames) (a b c : Done) (text rest : List ℕ)
    → ChoosesFirst P old mid a b text rest → c ≡ b → ChoosesSome P old a c text
first_some P old mid a b c text rest h same = record {
  choice = record {
    frames = h.frames;
    behind = rest;
    chosen = h.chooses.chosen;
    whole = h.whole;
    each = h.each;
    chosen_are = h.chooses.chosen_are;
  };
  done = same ∙ h.chooses.done;
}

pub first_all : (P : List ℕ → Type 0) (old mid : Option LastFrames) (a b : Done) (most n : ℕ) (text rest part : List ℕ)
    → ChoosesFirst P old mid a b text rest → IsBadFrame most rest n → part ≡ rest → ChoosesAll P old mid a b text part
first_all P old mid a b most n text rest part h bad is = rw is (record {
  frames = h.frames;
  frames_are = record { whole = h.whole; each = h.each; none = no_whole most n rest bad };
  chooses = h.chooses;
})

-- ---- the session

abbrev pub empty_choice : (P : List ℕ → Type 0) → Choice P []
empty_choice P = record {
  frames = [];
  rest = [];
  chosen = [];
  frames_are = record { whole = refl; each = tt; none = NoPrefix-nil Counted };
  chosen_are = refl;
}

pub late_nothing : (limit : Option ℕ) → kept_late limit [] ≡ []
late_nothing None = refl
late_nothing (Some n) = drop_of_length-le [] (omega arith)

-- one choice
pub same_choice : (P : List ℕ → Type 0) (given : List ℕ) (c d : Choice P given) → c.chosen ≡ d.chosen
same_choice P given c d =
    let same = unique_frames Counted given c.frames d.frames c.rest d.rest c.frames_are d.frames_are in
    chosen_unique P d.frames c.chosen d.chosen (subst (λ fs. AreChosen P fs c.chosen) same.0 c.chosen_are) d.chosen_are

-- the frames of what was given go on with those of the part and the piece
abbrev pub choice_more : (P : List ℕ → Type 0) (given piece rest : List ℕ) (fs cs : List (List ℕ)) (c : Choice P given)
    → Frames Counted (c.rest ++ piece) fs rest → AreChosen P fs cs → Choice P (given ++ piece)
choice_more P given piece rest fs cs c frames chosen = record {
  frames = c.frames ++ fs;
  rest = rest;
  chosen = c.chosen ++ cs;
  frames_are = record {
    whole = ap (λ xs. xs ++ piece) c.frames_are.whole
        ∙ (append_assoc (frames_text c.frames) c.rest piece
        ∙ (ap (λ xs. frames_text c.frames ++ xs) frames.whole
        ∙ (sym (append_assoc (frames_text c.frames) (frames_text fs) rest)
        ∙ ap (λ xs. xs ++ rest) (sym (flat_map-append (framed Counted) c.frames fs)))));
    each = all_append (CanCarry Counted) c.frames fs c.frames_are.each frames.each;
    none = frames.none;
  };
  chosen_are = chosen_append P c.frames fs c.chosen cs c.chosen_are chosen;
}

abbrev pub first_choice_more : (P : List ℕ → Type 0) (given piece : List ℕ) (c : Choice P given)
    (k : FirstChoice P (c.rest ++ piece)) → FirstChoice P (given ++ piece)
first_choice_more P given piece c k = record {
  frames = c.frames ++ k.frames;
  behind = k.behind;
  chosen = c.chosen ++ k.chosen;
  whole = ap (λ xs. xs ++ piece) c.frames_are.whole
      ∙ (append_assoc (frames_text c.frames) c.rest piece
      ∙ (ap (λ xs. frames_text c.frames ++ xs) k.whole
      ∙ (sym (append_assoc (frames_text c.frames) (frames_text k.frames) k.behind)
      ∙ ap (λ xs. xs ++ k.behind) (sym (flat_map-append (framed Counted) c.frames k.frames)))));
  each = all_append (CanCarry Counted) c.frames k.frames c.frames_are.each k.each;
  chosen_are = chosen_append P c.frames k.frames c.chosen k.chosen c.chosen_are k.chosen_are;
}

-- what was written before and is held, and then more
pub more_written : (limit : Option ℕ) (cs ds : List (List ℕ)) (before held kept : Done)
    → then_done before held ≡ written (written_early limit cs) []
    → kept ≡ then_done held (written (written_early limit ds) [])
    → then_done before kept ≡ written (written_early limit (cs ++ ds)) []
more_written limit cs ds before held kept was is =
    ap (λ (x : Done). then_done before x) is
    ∙ (done_assoc before held (written (written_early limit ds) [])
    ∙ (ap (λ (x : Done). then_done x (written (written_early limit ds) [])) was
    ∙ ap (λ (xs : List ℕ). written xs []) (sym (early_append limit cs ds))))
  where
    or_assoc : (a b c : Bool) → (a || (b || c)) ≡ ((a || b) || c)
    or_assoc true b c = refl
    or_assoc false b c = refl

    done_assoc : (a b c : Done) → then_done a (then_done b c) ≡ then_done (then_done a b) c
    done_assoc a b c = λ i. record {
      refused = or_assoc a.refused b.refused c.refused i;
      output = sym (append_assoc a.output b.output c.output) i;
      diagnostics = sym (append_assoc a.diagnostics b.diagnostics c.diagnostics) i;
    }

-- the frames that were wanted are those that were written as they came, and those that are kept
early_late : (limit : Option ℕ) (cs : List (List ℕ))
    → written_early limit cs ++ frames_text (kept_late limit cs) ≡ frames_text (wanted limit cs)
early_late None cs = append-nil (frames_text cs)
early_late (Some n) cs = refl

refused_then : (a b c : Bool) → (a || b) ≡ false → ((a || (b || c)) || false) ≡ c
refused_then true b c h = cc
refused_then false true c h = cc
refused_then false false c h = or_false c

-- a stream ends
pub choice_ends : (P : List ℕ → Type 0) (limit : Option ℕ) (last : Option LastFrames) (part given : List ℕ)
    (before held : Done) (now : Bool) → StandsAt P limit last part given → now ≡ (held.refused || is_cut part)
    → ((c : Choice P given) × (then_done before held ≡ written (written_early limit c.chosen) []))
    → (c : Choice P given)
    × (with_rest (then_done before (record { refused = now; output = held.output; diagnostics = held.diagnostics }))
    (frames_text (kept_in last))
    ≡ record { refused = is_cut c.rest; output = frames_text (wanted limit c.chosen); diagnostics = [] })
choice_ends P limit last part given before held now s is (c, so_far) =
    let same = same_choice P given c s.choice in
    let early : then_done before held ≡ written (written_early limit s.choice.chosen) [] =
    so_far ∙ ap (λ cs. written (written_early limit cs) []) same in (
      s.choice,
      λ i. record {
        refused = (ap (λ r. (before.refused || r) || false) is
            ∙ (refused_then before.refused held.refused (is_cut part) (ap (λ (x : Done). x.refused) early)
            ∙ ap is_cut s.part_is)) i;
        output = (ap (λ xs. (before.output ++ held.output) ++ frames_text xs) s.kept
            ∙ (ap (λ (x : Done). x.output ++ frames_text (kept_late limit s.choice.chosen)) early
            ∙ early_late limit s.choice.chosen)) i;
        diagnostics = (append-nil (before.diagnostics ++ held.diagnostics)
            ∙ ap (λ (x : Done). x.diagnostics) early) i;
      },
    )

-- a piece was taken
pub choice_takes : (P : List ℕ → Type 0) (limit : Option ℕ) (old new : Option LastFrames) (part rest given piece : List ℕ)
    (before held kept : Done) → StandsAt P limit old part given
    → ((c : Choice P given) × (then_done before held ≡ written (written_early limit c.chosen) []))
    → ChoosesAll P old new held kept (part ++ piece) rest
    → StandsAt P limit new rest (given ++ piece)
    × ((c : Choice P (given ++ piece)) × (then_done before kept ≡ written (written_early limit c.chosen) []))
choice_takes P limit old new part rest given piece before held kept s (c, so_far) k =
    let frames = subst (λ xs. Frames Counted (xs ++ piece) k.frames rest) s.part_is k.frames_are in
    let more = choice_more P given piece rest k.frames k.chooses.chosen s.choice frames k.chooses.chosen_are in
    let early : then_done before held ≡ written (written_early limit s.choice.chosen) [] =
    so_far ∙ ap (λ cs. written (written_early limit cs) []) (same_choice P given c s.choice) in (
      record {
        choice = more;
        limit_is = k.chooses.limit ∙ s.limit_is;
        kept = k.chooses.kept s.choice.chosen (s.kept ∙ ap (λ l. kept_late l s.choice.chosen) (sym s.limit_is))
            ∙ ap (λ l. kept_late l (s.choice.chosen ++ k.chooses.chosen)) s.limit_is;
        part_is = refl;
      },
      (
        more,
        more_written limit s.choice.chosen k.chooses.chosen before held kept early
            (k.chooses.done ∙ ap (λ l. then_done held (written (written_early l k.chooses.chosen) [])) s.limit_is),
      ),
    )

-- a part of a piece was
pub choice_stops : (P : List ℕ → Type 0) (limit : Option ℕ) (old : Option LastFrames) (part given piece : List ℕ)
    (before held kept : Done) → StandsAt P limit old part given
    → ((c : Choice P given) × (then_done before held ≡ written (written_early limit c.chosen) []))
    → ChoosesSome P old held kept (part ++ piece)
    → (c : FirstChoice P (given ++ piece)) × (then_done before kept ≡ written (written_early limit c.chosen) [])
choice_stops P limit old part given piece before held kept s (c, so_far) k =
    let first : FirstChoice P (s.choice.rest ++ piece) = record {
      frames = k.choice.frames;
      behind = k.choice.behind;
      chosen = k.choice.chosen;
      whole = ap (λ xs. xs ++ piece) (sym s.part_is) ∙ k.choice.whole;
      each = k.choice.each;
      chosen_are = k.choice.chosen_are;
    } in
    let early : then_done before held ≡ written (written_early limit s.choice.chosen) [] =
    so_far ∙ ap (λ cs. written (written_early limit cs) []) (same_choice P given c s.choice) in (
      first_choice_more P given piece s.choice first,
      more_written limit s.choice.chosen k.choice.chosen before held kept early
          (k.done ∙ ap (λ l. then_done held (written (written_early l k.choice.chosen) [])) s.limit_is),
    )

-- nothing of a piece was
pub some_nothing : (P : List ℕ → Type 0) (old : Option LastFrames) (b : Done) (text : List ℕ) → ChoosesSome P old b b text
some_nothing P old b text = first_some P old old b b b text text (first_nothing P old b text) refl

pub choice_begins : (P : List ℕ → Type 0) (last : Option LastFrames) (part : List ℕ) → kept_in last ≡ [] → part ≡ []
    → StandsAt P (limit_of last) last part []
choice_begins P last part none nil = record {
  choice = empty_choice P;
  limit_is = refl;
  kept = none ∙ sym (late_nothing (limit_of last));
  part_is = nil;
}

or_true : (a : Bool) → (a || true) ≡ true
or_true true = refl
or_true false = refl

-- a stream that ends inside a frame is refused
pub cut_refused : (part : List ℕ) (refused : Bool) (n : ℕ) → n ≡ length part → (n == 0) ≡ false
    → true ≡ (refused || is_cut part)
cut_refused [] refused n is some = absurd (eqb-false n 0 some is)
cut_refused (x ∷ xs) refused n is some = sym (or_true refused)

pub whole_refused : (part : List ℕ) (refused : Bool) (n : ℕ) → n ≡ length part → (n == 0) ≡ true
    → refused ≡ (refused || is_cut part)
whole_refused [] refused n is none = sym (or_false refused)
whole_refused (x ∷ xs) refused n is none =
    let other : false ≡ true = sym (ne_eqb n 0 (λ zero_is. omega (arith, is, zero_is))) ∙ none in
    cc
