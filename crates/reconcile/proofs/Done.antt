-- Facts on what was done, whatever the peer is.
use Rattle.std.proofs.Common.{◌≡◌, ℕ, ◌+◌, List, Result, Ok, Err, inl, inr, arith, subst, sym}
use Rattle.std.specs.Prelude.{OnOk}
use Rattle.archive_text.specs.Entries.{Entry, Has}
use Rattle.archive_text.specs.Text.{IsArchive}
use Rattle.archive_text.specs.declared.limits.TheConstants.{ENTRY_MAX}
use Rattle.reconcile.specs.Requests.{Did, Seen, Sends}
use Rattle.reconcile.specs.Unions.{IsPartly}
use Rattle.reconcile.specs.declared.stopped.Stopped.{Stopped}

always : {A E : Type 0} (r : Result A E) (P : Type 0) → P → OnOk r P
always (Ok a) P p = p
always (Err e) P p = tt

-- what one outcome that is well tells, any other may tell
pub sends_any : {A B E F : Type 0} (n : ℕ) (old new : Seen) (a : A) (res : Result B F)
    → Sends n old new (let r : Result A E = Ok a in r) → Sends n old new res
sends_any n old new a res s = record { requests = s.requests; kept = always res _ s.kept }

-- nothing was added
pub did_none : {A : Type 0} (P : Entry → Type 0) (own own' : List Entry) (n : ℕ) (old new : Seen)
    (res : Result A Stopped)
    → IsArchive ENTRY_MAX own' → own' ≡ own → Sends n old new res → Did P own own' old new res
did_none P own own' n old new res archive e s = record {
  archive = archive;
  keeps = λ x h. subst (λ l. Has l x) (sym e) h;
  from = λ x h. inl (subst (λ l. Has l x) e h);
  kept = s.kept;
}

-- what was got was added
pub did_get : {A : Type 0} (P : Entry → Type 0) (own own' got : List Entry) (n : ℕ) (old new : Seen)
    (res : Result A Stopped)
    → ((x : Entry) → Has got x → P x) → IsPartly own got own' → Sends n old new res → Did P own own' old new res
did_get P own own' got n old new res all h s = record {
  archive = h.archive;
  keeps = h.keeps;
  from = λ x k. elim (h.from x k) [ inl o ↦ inl o | inr g ↦ inr (all x g) ];
  kept = s.kept;
}

kept_then : {B : Type 0} (res : Result B Stopped) (old mid new : Seen) → mid.kept + old.put ≡ old.kept + mid.put
    → OnOk res (new.kept + mid.put ≡ mid.kept + new.put) → OnOk res (new.kept + old.put ≡ old.kept + new.put)
kept_then (Ok b) old mid new h k = omega arith
kept_then (Err e) old mid new h k = tt

-- one thing was done after another
pub did_then : {A B : Type 0} (P : Entry → Type 0) (xs ys zs : List Entry) (old mid new : Seen) (a : A)
    (res : Result B Stopped)
    → Did P xs ys old mid (let r : Result A Stopped = Ok a in r) → Did P ys zs mid new res → Did P xs zs old new res
did_then P xs ys zs old mid new a res d e = record {
  archive = e.archive;
  keeps = λ x h. e.keeps x (d.keeps x h);
  from = λ x h. elim (e.from x h) [ inl k ↦ d.from x k | inr g ↦ inr g ];
  kept = kept_then res old mid new d.kept e.kept;
}

pub sends_then : {A B : Type 0} (m n : ℕ) (old mid new : Seen) (a : A) (res : Result B Stopped)
    → Sends m old mid (let r : Result A Stopped = Ok a in r) → Sends n mid new res → Sends (m + n) old new res
sends_then m n old mid new a res s t = record {
  requests = omega (arith, s.requests, t.requests);
  kept = kept_then res old mid new s.kept t.kept;
}

-- where this holds, that does too; and one outcome that is well tells as much as another
pub did_wider : {A : Type 0} (P R : Entry → Type 0) (xs ys : List Entry) (old new : Seen) (res : Result A Stopped)
    → ((x : Entry) → P x → R x)
    → Did P xs ys old new res → Did R xs ys old new res
did_wider P R xs ys old new res wider h = record {
  archive = h.archive;
  keeps = h.keeps;
  from = λ x k. elim (h.from x k) [ inl o ↦ inl o | inr g ↦ inr (wider x g) ];
  kept = h.kept;
}

pub did_so_far : {A B : Type 0} (P : Entry → Type 0) (xs ys : List Entry) (old new : Seen) (d : A) (e : B)
    → Did P xs ys old new (let r : Result A Stopped = Ok d in r)
    → Did P xs ys old new (let r : Result B Stopped = Ok e in r)
did_so_far P xs ys old new d e h = record { archive = h.archive; keeps = h.keeps; from = h.from; kept = h.kept }

pub did_stopped : {A B : Type 0} (P : Entry → Type 0) (xs ys : List Entry) (old new : Seen) (r : Result A Stopped)
    (e : Stopped)
    → Did P xs ys old new r → Did P xs ys old new (let s : Result B Stopped = Err e in s)
did_stopped P xs ys old new r e h = record { archive = h.archive; keeps = h.keeps; from = h.from; kept = tt }

pub sends_stopped : {A B E : Type 0} (m : ℕ) (old new : Seen) (r : Result A E) (e : Stopped) → Sends m old new r
    → Sends m old new (let s : Result B Stopped = Err e in s)
sends_stopped m old new r e s = record { requests = s.requests; kept = tt }
