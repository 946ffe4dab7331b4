-- What comes of two archives that were joined.
use Rattle.std.proofs.Common.{◌≡◌, ℕ, ◌<◌, ◌⊎◌, List, [], ◌++◌, Option, None, Some, IfSome, codes, length}
use Rattle.std.proofs.Common.{refl, sym, subst, inl, inr, arith}
use Rattle.std.specs.Prelude.{Ok, Err}
use Rattle.std.specs.Io.KnownBytes.{Appends, Consumes, IsAtEnd}
use Rattle.std.proofs.KnownBytes.{Appends-nil, Consumes-whole}
use Rattle.std.proofs.lemmas.List.{append-nil}
use Rattle.octet_devices.specs.Device.{InputState, OutputState}
use Rattle.archive_text.specs.Entries.{Entry}
use Rattle.archive_text.specs.Faults.{IsArchiveFault}
use Rattle.archive_text.specs.Text.{IsArchive, text_of}
use Rattle.archive_text.specs.declared.fault.ArchiveFault.{ArchiveFault}
use Rattle.archive_text.specs.declared.limits.TheConstants.{ENTRY_MAX}
use Rattle.archive_streams.specs.Joined.{Joined}
use Rattle.archive_streams.specs.Joining.{IsFirstWithin, IsUpToFirst}
use Rattle.archive_text.specs.Positions.{position_of as at_of}
use Rattle.archive_streams.specs.Steps.{TellsFailures}
use Rattle.archive_streams.specs.Stopped.{Stopped}
use Rattle.archive_streams.specs.declared.fault.MergeFault.{MergeFault}
use Rattle.archive_streams.specs.declared.fault.MergeFault.TheVariants.{Left, Right, Read, Endless, Write, Memory}
use Rattle.archive_streams.proofs.Joining.{SideAt, prefix_of_union}
use Rattle.frame_engine.specs.Converted.{goes_out}
use Rattle.driver.specs.Devices.{Reports}
use Rattle.driver.specs.Effects.{Done, status_of}
use Rattle.driver.specs.declared.status.TheConstants.{DONE, FAULT, NO_MEMORY}
use Rattle.archive_engine.specs.Answered.{AnswersWith}
use Rattle.archive_reports.specs.FaultLines.{fault_line}
use Rattle.archive_engine.specs.Merged.{IsMerged, IsRefusal, IsRefused, IsSecondAbove, MergeDone, RanMerge, RanOutOfMemory}
use Rattle.archive_engine.specs.Merged.{WritesFronts}
use Rattle.archive_engine.specs.Merged.{merge_devices, merge_line, merge_status, refused_behind}
use Rattle.archive_engine.proofs.FaultLemmas.{HasFaultOf, goes_on}

-- ---- both are archives

joined_merged : (dl el dr er : InputState) (t0 t1 : Option (List ℕ)) (n : ℕ) → (j : Joined dl el dr er t0 t1 n)
    → IsMerged (text_of j.xs) (text_of j.ys) (goes_out (text_of j.zs))
joined_merged dl el dr er t0 t1 n j = record {
  xs = j.xs;
  ys = j.ys;
  zs = j.zs;
  left_archive = j.left_archive;
  right_archive = j.right_archive;
  left_text = refl;
  right_text = refl;
  union = j.union;
  output = refl;
}

-- what holds of the octets of two readers that are at their ends
both_whole : (dl el dr er : InputState) (t0 t1 : Option (List ℕ)) (n : ℕ) (P : List ℕ → List ℕ → Type 0)
    → (j : Joined dl el dr er t0 t1 n) → P (text_of j.xs) (text_of j.ys) → IfSome dl.left (λ x. IfSome dr.left (P x))
both_whole dl el dr er t0 t1 n P j h =
    Consumes-whole dl.left el.left (text_of j.xs) (λ x. IfSome dr.left (P x)) j.left j.left_whole
    (Consumes-whole dr.left er.left (text_of j.ys) (P (text_of j.xs)) j.right j.right_whole h)

pub joined_answer : (dl el dr er : InputState) (t0 t1 n0 : Option (List ℕ)) (n : ℕ) → Joined dl el dr er t0 t1 n
    → IfSome dl.left (λ x. AnswersWith (MergeDone x) dr.left 0 t0 t1 n0 n0)
joined_answer dl el dr er t0 t1 n0 n j =
    both_whole dl el dr er t0 t1 n
    (λ x y. (d : Done) × MergeDone x y d × (0 ≡ status_of d) × Appends t0 t1 d.output × Appends n0 n0 d.diagnostics) j
    (goes_out (text_of j.zs), inl (joined_merged dl el dr er t0 t1 n j), refl, j.written, Appends-nil n0)

-- all of a side is joined
whole_side : (xs ws : List Entry) → IsArchive ENTRY_MAX xs → SideAt (text_of xs) xs ws
whole_side xs ws archive = record {
  es = xs;
  rest = [];
  parts = sym (append-nil (text_of xs));
  archive = archive;
  stands = inr (inl (refl, refl));
}

pub joined_fronts : (dl el dr er : InputState) (t0 t1 : Option (List ℕ)) (n : ℕ) → Joined dl el dr er t0 t1 n
    → IfSome dl.left (λ x. IfSome dr.left (λ y. WritesFronts x y t0 t1))
joined_fronts dl el dr er t0 t1 n j =
    both_whole dl el dr er t0 t1 n (λ x y. WritesFronts x y t0 t1) j (record {
      written = text_of j.zs;
      taken = j.written;
      prefix =
          prefix_of_union (text_of j.xs) (text_of j.ys) j.xs j.ys j.zs (whole_side j.xs j.zs j.left_archive)
          (whole_side j.ys j.zs j.right_archive) j.union;
    })

-- ---- a fault

-- what holds of all octets that two readers had left
both_some : (a b c d : Option (List ℕ)) (x y : List ℕ) (P : List ℕ → List ℕ → Type 0) → Consumes a c x → Consumes b d y
    → ((u v : List ℕ) → (IsAtEnd c → u ≡ []) → (IsAtEnd d → v ≡ []) → P (x ++ u) (y ++ v))
    → IfSome a (λ s. IfSome b (P s))
both_some None b c d x y P left right h = tt
both_some (Some s) b None d x y P left right h = absurd left
both_some (Some s) None (Some u) d x y P left right h = tt
both_some (Some s) (Some t) (Some u) None x y P left right h = absurd right
both_some (Some s) (Some t) (Some u) (Some v) x y P left right h =
    subst (λ (k : List ℕ). P k t) (sym left) (subst (P (x ++ u)) (sym right) (h u v (λ e. e) (λ e. e)))

pub stopped_fronts : (fault : MergeFault) (dl el dr er : InputState) (t0 t1 : Option (List ℕ))
    → Stopped fault dl el dr er t0 t1
    → IfSome dl.left (λ x. IfSome dr.left (λ y. WritesFronts x y t0 t1))
stopped_fronts fault dl el dr er t0 t1 s =
    both_some dl.left dr.left el.left er.left s.x s.y (λ x y. WritesFronts x y t0 t1) s.left s.right
    (λ u v at_end also. record { written = s.written; taken = s.taken; prefix = s.prefix u v at_end also })

-- the front of a text is that of the octets that it begins with
up_to_front : (x y text written : List ℕ) (fault : ArchiveFault) → HasFaultOf x text fault → IsUpToFirst x y written
    → IsUpToFirst text y written
up_to_front x y text written fault h up xs ys r s f g = let front = h.front xs r f in up xs ys front.0 s front.1 g

first_within : (x y text : List ℕ) (fault : ArchiveFault) → HasFaultOf x text fault → IsFirstWithin x y
    → IsFirstWithin text y
first_within x y text fault h order xs ys r s f g = let front = h.front xs r f in order xs ys front.0 s front.1 g

second_above : (x y text : List ℕ) (fault : ArchiveFault) → HasFaultOf x text fault → IsSecondAbove x y
    → IsSecondAbove text y
second_above x y text fault h order ys xs s r g f = let front = h.front xs r f in order ys xs s front.0 g front.1

-- what is refused of the octets that were read is refused of the text
refused : (F : List ℕ → List ℕ → Type 0) (name x y u v written : List ℕ) (fault : ArchiveFault)
    → ((text : List ℕ) → HasFaultOf x text fault → F x y → F text y) → IsArchiveFault ENTRY_MAX x fault
    → (at_of fault ≡ length x → u ≡ []) → IsUpToFirst x y written
    → ((too : ArchiveFault) → IsArchiveFault ENTRY_MAX y too → F x y)
    → IsRefused F name (x ++ u) (y ++ v) (refused_behind written name fault)
refused F name x y u v written fault carry is end up order =
    let h = goes_on x u fault is end in
    record {
      fault = fault;
      read = y;
      unread = v;
      written = written;
      fault_is = h.fault_is;
      parts = refl;
      up_to_front = up_to_front x y (x ++ u) written fault h up;
      order = λ too bad. carry (x ++ u) h (order too bad);
      whole = refl;
    }

left_answer : (fault : ArchiveFault) (dl el dr er : InputState) (t0 t1 n0 n1 : Option (List ℕ)) (status : ℕ)
    → Stopped (Left fault) dl el dr er t0 t1 → status ≡ 1 → Appends n0 n1 (fault_line (codes "left") fault)
    → IfSome dl.left (λ x. AnswersWith (MergeDone x) dr.left status t0 t1 n0 n1)
left_answer fault dl el dr er t0 t1 n0 n1 status s one noted =
    let no = s.input.0 in
    both_some dl.left dr.left el.left er.left s.x s.y
    (λ x y. (d : Done) × MergeDone x y d × (status ≡ status_of d) × Appends t0 t1 d.output × Appends n0 n1 d.diagnostics)
    s.left s.right
    (λ u v at_end also. (
      refused_behind s.written (codes "left") fault,
      inr (inl (refused IsFirstWithin (codes "left") s.x s.y u v s.written fault
          (λ text h. first_within s.x s.y text fault h) no.fault_is
          (λ at. at_end (no.at_end at).none_left) no.up_to_front
          s.input.1)),
      one,
      s.taken,
      noted,
    ))

right_answer : (fault : ArchiveFault) (dl el dr er : InputState) (t0 t1 n0 n1 : Option (List ℕ)) (status : ℕ)
    → Stopped (Right fault) dl el dr er t0 t1 → status ≡ 1 → Appends n0 n1 (fault_line (codes "right") fault)
    → IfSome dl.left (λ x. AnswersWith (MergeDone x) dr.left status t0 t1 n0 n1)
right_answer fault dl el dr er t0 t1 n0 n1 status s one noted =
    let no = s.input.0 in
    both_some dl.left dr.left el.left er.left s.x s.y
    (λ x y. (d : Done) × MergeDone x y d × (status ≡ status_of d) × Appends t0 t1 d.output × Appends n0 n1 d.diagnostics)
    s.left s.right
    (λ u v at_end also. (
      refused_behind s.written (codes "right") fault,
      inr (inr (refused IsSecondAbove (codes "right") s.y s.x v u s.written fault
          (λ text h. second_above s.y s.x text fault h) no.fault_is (λ at. also (no.at_end at).none_left) no.up_to_front
          s.input.1)),
      one,
      s.taken,
      noted,
    ))

pub refused_answer : (fault : MergeFault) (dl el dr er : InputState) (t0 t1 n0 n1 : Option (List ℕ)) (status : ℕ)
    → Stopped fault dl el dr er t0 t1 → status ≡ 1 → IsRefusal fault → Appends n0 n1 (merge_line fault)
    → IfSome dl.left (λ x. AnswersWith (MergeDone x) dr.left status t0 t1 n0 n1)
refused_answer (Left fault) dl el dr er t0 t1 n0 n1 status s one is noted =
    left_answer fault dl el dr er t0 t1 n0 n1 status s one noted
refused_answer (Right fault) dl el dr er t0 t1 n0 n1 status s one is noted =
    right_answer fault dl el dr er t0 t1 n0 n1 status s one noted
refused_answer (Read side) dl el dr er t0 t1 n0 n1 status s one is noted = absurd is
refused_answer (Endless side) dl el dr er t0 t1 n0 n1 status s one is noted = absurd is
refused_answer (Write sent) dl el dr er t0 t1 n0 n1 status s one is noted = absurd is
refused_answer Memory dl el dr er t0 t1 n0 n1 status s one is noted = absurd is

-- ---- the failures

told_joined : (k m : ℕ) (dl el dr er : InputState) (w w_new : OutputState)
    → TellsFailures {X = ℕ} (Ok k) dl el dr er w w_new → TellsFailures {X = ℕ} (Ok m) dl el dr er w w_new
told_joined k m dl el dr er w w_new f = record {
  left = f.left;
  right = f.right;
  writer = f.writer;
  read_left = λ low is. absurd cc;
  read_right = λ low is. absurd cc;
}

unsaid_stop : (fault : MergeFault) (dl el dr er : InputState) (t0 t1 : Option (List ℕ))
    → Stopped fault dl el dr er t0 t1 → Stopped Memory dl el dr er t0 t1
unsaid_stop fault dl el dr er t0 t1 s = record {
  x = s.x;
  y = s.y;
  written = s.written;
  left = s.left;
  right = s.right;
  left_calls = s.left_calls;
  right_calls = s.right_calls;
  taken = s.taken;
  prefix = s.prefix;
  input = tt;
  sent = tt;
  unsent = tt;
}

unsaid_failures : (fault : MergeFault) (dl el dr er : InputState) (w w_new : OutputState) → IsRefusal fault
    → TellsFailures {X = ℕ} (Err fault) dl el dr er w w_new → TellsFailures {X = ℕ} (Err Memory) dl el dr er w w_new
unsaid_failures (Left fault) dl el dr er w w_new is f = record {
  left = f.left;
  right = f.right;
  writer = f.writer;
  read_left = λ low e. absurd cc;
  read_right = λ low e. absurd cc;
}
unsaid_failures (Right fault) dl el dr er w w_new is f = record {
  left = f.left;
  right = f.right;
  writer = f.writer;
  read_left = λ low e. absurd cc;
  read_right = λ low e. absurd cc;
}
unsaid_failures (Read side) dl el dr er w w_new is f = absurd is
unsaid_failures (Endless side) dl el dr er w w_new is f = absurd is
unsaid_failures (Write sent) dl el dr er w w_new is f = absurd is
unsaid_failures Memory dl el dr er w w_new is f = absurd is

-- a status below that of a fault is that of a refusal
told_answer : (fault : MergeFault) (dl el dr er : InputState) (t0 t1 : Option (List ℕ)) (n n_new : OutputState)
    (status : ℕ) → Stopped fault dl el dr er t0 t1 → Reports (merge_line fault) (merge_status fault) n n_new status
    → status < FAULT → IfSome dl.left (λ x. AnswersWith (MergeDone x) dr.left status t0 t1 n.taken n_new.taken)
told_answer fault dl el dr er t0 t1 n n_new status s (inr (is, failed)) few = absurd (omega (arith, is, few))
told_answer (Left fault) dl el dr er t0 t1 n n_new status s (inl (is, wrote)) few =
    refused_answer (Left fault) dl el dr er t0 t1 n.taken n_new.taken status s is tt wrote.octets
told_answer (Right fault) dl el dr er t0 t1 n n_new status s (inl (is, wrote)) few =
    refused_answer (Right fault) dl el dr er t0 t1 n.taken n_new.taken status s is tt wrote.octets
told_answer (Read side) dl el dr er t0 t1 n n_new status s (inl (is, wrote)) few = absurd (omega (arith, is, few))
told_answer (Endless side) dl el dr er t0 t1 n n_new status s (inl (is, wrote)) few = absurd (omega (arith, is, few))
told_answer (Write sent) dl el dr er t0 t1 n n_new status s (inl (is, wrote)) few = absurd (omega (arith, is, few))
told_answer Memory dl el dr er t0 t1 n n_new status s (inl (is, wrote)) few = absurd (omega (arith, is, few))

-- ---- a run

pub ran_joined : (dl el dr er : InputState) (w w_new n : OutputState) (k : ℕ)
    → Joined dl el dr er w.taken w_new.taken k → TellsFailures {X = ℕ} (Ok k) dl el dr er w w_new
    → RanMerge (merge_devices dl dr w n) (merge_devices el er w_new n) DONE
ran_joined dl el dr er w w_new n k j f = record {
  ending = None;
  outcome = (refl, refl, (k, j));
  memory = λ is. absurd (cc is);
  failures = told_joined k 0 dl el dr er w w_new f;
  answer = λ few. joined_answer dl el dr er w.taken w_new.taken n.taken k j;
  begins = joined_fronts dl el dr er w.taken w_new.taken k j;
}

-- a fault was told by its line
ran_told : (fault : MergeFault) (dl el dr er : InputState) (w w_new n n_new : OutputState) (status : ℕ)
    → (fault ≡ Memory → RanOutOfMemory (merge_devices dl dr w n) (merge_devices el er w_new n_new))
    → Stopped fault dl el dr er w.taken w_new.taken → TellsFailures {X = ℕ} (Err fault) dl el dr er w w_new
    → Reports (merge_line fault) (merge_status fault) n n_new status
    → RanMerge (merge_devices dl dr w n) (merge_devices el er w_new n_new) status
ran_told fault dl el dr er w w_new n n_new status out s f r = record {
  ending = Some fault;
  outcome = (r, s);
  memory = λ is. out (cc is);
  failures = f;
  answer = λ few. told_answer fault dl el dr er w.taken w_new.taken n n_new status s r few;
  begins = stopped_fronts fault dl el dr er w.taken w_new.taken s;
}

-- a fault for whose line memory ran out
unsaid : (fault : MergeFault) (dl el dr er : InputState) (w w_new n n_new : OutputState) (status : ℕ) → IsRefusal fault
    → Stopped fault dl el dr er w.taken w_new.taken → TellsFailures {X = ℕ} (Err fault) dl el dr er w w_new
    → Reports (codes "want of memory\n") NO_MEMORY n n_new status
    → RanMerge (merge_devices dl dr w n) (merge_devices el er w_new n_new) status
unsaid fault dl el dr er w w_new n n_new status is s f r =
    ran_told Memory dl el dr er w w_new n n_new status (λ _. inr (fault, is, s))
    (unsaid_stop fault dl el dr er w.taken w_new.taken s)
    (unsaid_failures fault dl el dr er w w_new is f) r

pub ran_stopped : (fault : MergeFault) (dl el dr er : InputState) (w w_new n n_new : OutputState) (status : ℕ)
    → (fault ≡ Memory → (el ≡ dl) × (er ≡ dr) × (w_new ≡ w)) → Stopped fault dl el dr er w.taken w_new.taken
    → TellsFailures {X = ℕ} (Err fault) dl el dr er w w_new
    → Reports (merge_line fault) (merge_status fault) n n_new status
    ⊎ (IsRefusal fault × Reports (codes "want of memory\n") NO_MEMORY n n_new status)
    → RanMerge (merge_devices dl dr w n) (merge_devices el er w_new n_new) status
ran_stopped fault dl el dr er w w_new n n_new status none s f (inl r) =
    ran_told fault dl el dr er w w_new n n_new status (λ is. inl (none is)) s f r
ran_stopped fault dl el dr er w w_new n n_new status none s f (inr (is, r)) =
    unsaid fault dl el dr er w w_new n n_new status is s f r
