-- One turn: the least of the next entries is joined.
use Rattle.std.proofs.Common.{◌≡◌, ◌∙◌, ℕ, ◌+◌, ◌<◌, Bool, false, List, [], ◌∷◌, ◌++◌, map, get_or, Option, refl, sym, ap, subst, arith}
use Rattle.std.proofs.Common.{IfErr, Result, Ok, Err}
use Rattle.std.specs.Io.KnownBytes.{Appends}
use Rattle.std.proofs.lemmas.List.{get_or-map}
use Rattle.octet_devices.specs.Device.{InputState}
use Rattle.octet_devices.specs.Held.{Carries, Held, StopsWithin, counted}
use Rattle.archive_text.specs.Entries.{Entry}
use Rattle.archive_streams.specs.Entries.{current}
use Rattle.archive_join.specs.Heads.{IsAt, IsLeast, is_next, total}
use Rattle.archive_join.specs.Failures.{WriteFailures}
use Rattle.archive_join.specs.Holders.{kept_text}
use Rattle.archive_join.specs.Joined.{IsWrittenAt}
use Rattle.archive_join.specs.Joining.{AreHolders, Halted, IsUnderWay, Joining, JoiningAs}
use Rattle.archive_join.specs.Sides.{AdvanceHalts, Advances, AreIdle, Nears, NearsAt, Standing}
use Rattle.archive_join.specs.declared.fault.JoinFault.{JoinFault}
use Rattle.archive_join.specs.declared.fault.JoinFault.TheVariants.{Archive, Read, Endless, Write, Memory}
use Rattle.archive_join.specs.declared.head.Head.{Head}
use Rattle.archive_join.specs.declared.joining.Join.{Join}
use Rattle.archive_join.proofs.Ends.{halted_at, writer_stops}
use Rattle.archive_join.proofs.NextEntries.{at_number}
use Rattle.archive_join.proofs.Taking.{TakesEntry, kept_union, least_next, kept_words, passed_by, put_on, takes_entry}

-- the archives behind the entry, whose holders are known
holding : (j : Join) (least : ℕ) (h : Head) (ds es : List InputState) (tss : List (List Entry)) (ws : List Entry)
    → IsAt j.heads.items least h → AreHolders j.heads.items j.holders.items least
    → (t : TakesEntry j.heads.items ds es tss ws (current h.entries))
    → Standing j.heads.items j.holders.items ds es t.grown_all (ws ++ current h.entries ∷ [])
holding j least h ds es tss ws at holders t =
    subst (λ (cs : List Bool). Standing j.heads.items cs ds es t.grown_all (ws ++ current h.entries ∷ []))
    (sym (holders h at)) t.standing

-- the entry is not kept
pub taken_not : (keeps : List Bool → Type 0) (text : List Bool → Entry → List ℕ) (j k : Join) (least : ℕ)
    (bs : List Bool) (ds es : List InputState) (start now : Option (List ℕ)) → IsLeast j.heads.items j.heads.items least
    → AreHolders j.heads.items j.holders.items least → ¬ (keeps j.holders.items) → k.heads ≡ j.heads
    → k.holders ≡ j.holders → k.held ≡ j.held → k.count ≡ j.count → AreIdle bs
    → JoiningAs keeps text bs j ds es start now → Joining keeps text k ds es start now
taken_not keeps text j k least bs ds es start now is holders fails heads flags held count idle g =
    let h = at_number j.heads.items least is.within in
    let e = current h.0.entries in
    let t = takes_entry j.heads.items bs ds es g.tss g.ws least h.0 idle is h.1 g.standing in
    record {
      tss = t.grown_all;
      ws = g.ws ++ e ∷ [];
      standing = rw (heads, flags) (holding j least h.0 ds es g.tss g.ws h.1 holders t);
      collects = rw (held, count) (passed_by keeps text j.heads.items ds es g.tss g.ws e j.held j.count start now t
          (λ x. fails (subst keeps (sym (holders h.0 h.1)) x)) g.collects);
    }

-- it is put
pub taken_put : (keeps : List Bool → Type 0) (text : List Bool → Entry → List ℕ) (j k : Join) (least : ℕ) (h : Head)
    (x : Entry) (bs : List Bool) (ds es : List InputState) (start a b : Option (List ℕ))
    → IsLeast j.heads.items j.heads.items least → AreHolders j.heads.items j.holders.items least
    → IsAt j.heads.items least h → x ≡ current h.entries → keeps j.holders.items → k.heads ≡ j.heads
    → k.holders ≡ j.holders → k.count ≡ counted (j.count + 1)
    → ((before : List ℕ) → Carries start a j.held before → Carries start b k.held (before ++ text j.holders.items x))
    → AreIdle bs → JoiningAs keeps text bs j ds es start a → Joining keeps text k ds es start b
taken_put keeps text j k least h x bs ds es start a b is holders at this holds heads flags count puts idle g =
    let e = current h.entries in
    let t = takes_entry j.heads.items bs ds es g.tss g.ws least h idle is at g.standing in
    record {
      tss = t.grown_all;
      ws = g.ws ++ e ∷ [];
      standing = rw (heads, flags) (holding j least h ds es g.tss g.ws at holders t);
      collects = put_on keeps text j.heads.items ds es g.tss g.ws e j.held k.held j.count k.count start a b t
          (subst keeps (holders h at) holds) count
          (λ before c. subst (λ (l : List Bool). Carries start b k.held (before ++ text l e)) (holders h at)
          (subst (λ (y : Entry). Carries start b k.held (before ++ text j.holders.items y)) this (puts before c)))
          g.collects;
    }

-- or the writer fails
pub taken_stops : (keeps : List Bool → Type 0) (text : List Bool → Entry → List ℕ) (j : Join) (held : Held) (least : ℕ)
    (h : Head) (x : Entry) (sent : ℕ) (bs : List Bool) (ds es : List InputState) (start a b : Option (List ℕ))
    → IsLeast j.heads.items j.heads.items least → AreHolders j.heads.items j.holders.items least
    → IsAt j.heads.items least h → x ≡ current h.entries → keeps j.holders.items
    → ((before : List ℕ) → Carries start a j.held before
    → StopsWithin start b (before ++ text j.holders.items x) sent)
    → AreIdle bs → JoiningAs keeps text bs j ds es start a → Halted keeps text (Write sent) held ds es start b
taken_stops keeps text j held least h x sent bs ds es start a b is holders at this holds stops idle g =
    let e = current h.entries in
    let hs = j.heads.items in
    let t = takes_entry hs bs ds es g.tss g.ws least h idle is at g.standing in
    let c = g.collects in
    writer_stops keeps text sent hs (map (is_next e) hs) ds es t.grown_all (g.ws ++ e ∷ []) (c.ys ++ e ∷ [])
    (λ (l : List ℕ). StopsWithin start b l sent) t.standing (t.union c.union)
    (kept_union keeps text hs ds es g.tss g.ws e j.held j.count start a t (subst keeps (holders h at) holds) c)
    (subst (λ (l : List ℕ). StopsWithin start b l sent) (kept_words keeps text hs ds es g.tss g.ws e j.held j.count start a t c)
    (subst (λ (l : List Bool). StopsWithin start b (kept_text text g.tss c.ys ++ text l e) sent) (holders h at)
    (subst (λ (y : Entry). StopsWithin start b (kept_text text g.tss c.ys ++ text j.holders.items y) sent) this
    (stops (kept_text text g.tss c.ys) c.carries))))

-- ---- the holders are noted, and next entries are read

pub marked : (keeps : List Bool → Type 0) (text : List Bool → Entry → List ℕ) (j k : Join) (ds es : List InputState)
    (start now : Option (List ℕ)) → k.heads ≡ j.heads → k.held ≡ j.held → k.count ≡ j.count
    → Joining keeps text j ds es start now → JoiningAs keeps text j.holders.items k ds es start now
marked keeps text j k ds es start now heads held count g = record {
  tss = g.tss;
  ws = g.ws;
  standing = rw heads g.standing;
  collects = rw (held, count) g.collects;
}

pub joining_advanced : (keeps : List Bool → Type 0) (text : List Bool → Entry → List ℕ) (j k : Join)
    (ds es fs : List InputState) (start now : Option (List ℕ)) → k.held ≡ j.held → k.count ≡ j.count
    → Advances j.heads.items j.holders.items k.heads.items k.holders.items es fs → Joining keeps text j ds es start now
    → Joining keeps text k ds fs start now
joining_advanced keeps text j k ds es fs start now held count advances g = record {
  tss = g.tss;
  ws = g.ws;
  standing = advances ds g.tss g.ws g.standing;
  collects = rw (held, count) g.collects;
}

-- a fault that is not the writer's
pub not_writer : (X : Type 0) (fault : JoinFault) → ((n : ℕ) → WriteFailures {X = X} (Err fault) n n) → (sent : ℕ)
    → ¬ (fault ≡ Write sent)
not_writer X fault told sent same =
    omega (arith, subst (λ (f : JoinFault). WriteFailures {X = X} (Err f) 0 0) same (told 0) (omega arith))

under_way : (fault : JoinFault) (held : Held) (start now : Option (List ℕ)) (t : List ℕ)
    → ((sent : ℕ) → ¬ (fault ≡ Write sent)) → Carries start now held t → IsUnderWay fault held start now t
under_way (Archive input fault) held start now t other c = c
under_way (Read input) held start now t other c = c
under_way (Endless input) held start now t other c = c
under_way (Write sent) held start now t other c = absurd (other sent refl)
under_way Memory held start now t other c = c

pub joining_halts : (keeps : List Bool → Type 0) (text : List Bool → Entry → List ℕ) (fault : JoinFault) (j k : Join)
    (ds es fs : List InputState) (start now : Option (List ℕ)) → k.held ≡ j.held
    → ((sent : ℕ) → ¬ (fault ≡ Write sent)) → AdvanceHalts fault j.heads.items j.holders.items es fs
    → Joining keeps text j ds es start now → Halted keeps text fault k.held ds fs start now
joining_halts keeps text fault j k ds es fs start now held other halts g =
    rw held (halted_at keeps text fault ds fs g.tss g.ws j.held j.count start now
    (λ t c. under_way fault j.held start now t other c) (halts ds g.tss g.ws g.standing) g.collects)

-- where the readers' fault is not the writer's
pub if_readers : (X : Type 0) (r : Result X JoinFault) (P Q : JoinFault → Type 0)
    → ((n : ℕ) → WriteFailures r n n) → ((fault : JoinFault) → ((sent : ℕ) → ¬ (fault ≡ Write sent)) → P fault → Q fault)
    → IfErr r P → IfErr r Q
if_readers X (Ok x) P Q told then p = tt
if_readers X (Err fault) P Q told then p = then fault (not_writer X fault told) p

-- each turn comes nearer to the ends
pub turn_nears : (hs ks : List Head) (bs : List Bool) (least : ℕ) → IsLeast hs hs least → AreHolders hs bs least
    → Nears hs bs ks → total ks < total hs
turn_nears hs ks bs least is holders near =
    let h = at_number hs least is.within in
    let e = current h.0.entries in
    near.nearer least h.0 is.within h.1 (is.unclosed h.0 h.1)
    (ap (λ (l : List Bool). get_or l least false) (holders h.0 h.1) ∙ get_or-map (is_next e) hs least h.0 false is.within
    ∙ ap (is_next e) (sym h.1) ∙ least_next hs least h.0 is h.1)

pub turn_nears_at : (hs ks : List Head) (bs : List Bool) (least : ℕ) → IsLeast hs hs least → AreHolders hs bs least
    → NearsAt hs bs ks least → total ks < total hs
turn_nears_at hs ks bs least is holders near =
    let h = at_number hs least is.within in
    let e = current h.0.entries in
    near.nearer h.0 h.1 (is.unclosed h.0 h.1)
    (ap (λ (l : List Bool). get_or l least false) (holders h.0 h.1) ∙ get_or-map (is_next e) hs least h.0 false is.within
    ∙ ap (is_next e) (sym h.1) ∙ least_next hs least h.0 is h.1)

-- ---- the end

pub written_at : (fault : JoinFault) (held : Held) (start now after : Option (List ℕ)) (t : List ℕ)
    → ((sent : ℕ) → ¬ (fault ≡ Write sent)) → ((l : List ℕ) → Carries start now held l → Appends start after l)
    → IsUnderWay fault held start now t → IsWrittenAt fault start after t
written_at (Archive input fault) held start now after t other whole u = whole t u
written_at (Read input) held start now after t other whole u = whole t u
written_at (Endless input) held start now after t other whole u = whole t u
written_at (Write sent) held start now after t other whole u = absurd (other sent refl)
written_at Memory held start now after t other whole u = whole t u

pub stops_at : (fault : JoinFault) (held : Held) (start now after : Option (List ℕ)) (t : List ℕ) (sent : ℕ)
    → ((n : ℕ) → ¬ (fault ≡ Write n)) → ((l : List ℕ) → Carries start now held l → StopsWithin start after l sent)
    → IsUnderWay fault held start now t → StopsWithin start after t sent
stops_at (Archive input fault) held start now after t sent other stops u = stops t u
stops_at (Read input) held start now after t sent other stops u = stops t u
stops_at (Endless input) held start now after t sent other stops u = stops t u
stops_at (Write n) held start now after t sent other stops u = absurd (other n refl)
stops_at Memory held start now after t sent other stops u = stops t u
