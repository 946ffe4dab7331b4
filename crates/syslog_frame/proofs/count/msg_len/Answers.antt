use Rattle.std.proofs.Common.{◌≡◌, ◌+◌, [], length, take, drop, get_or, refl, subst, inl, arith}
use Rattle.std.proofs.lemmas.List.{length-take}
use Rattle.octet_language.specs.Language.{AnyOf, IsFaultOffset}
use Rattle.syslog_frame.specs.MsgLen.{MsgLen}
use Rattle.syslog_frame.proofs.Cuts.{parted_at}
use Rattle.syslog_frame.proofs.Counts.{Refusal, HasPrefix-msg_len, Begins-count, NoPrefix-count, NoPrefix-refusal}
use Rattle.syslog_frame.proofs.Counts.{none_begins, offset_of_refusal}
use Rattle.syslog_frame.proofs.count.msg_len.Goals as goal

pub returns-in-Read : goal.returns-in-Read
returns-in-Read c = let h = c.in-Read.ensures.counts [] (inl (refl, refl)) in let s = c.in-Read.ensures.step in
    (s.2, (s.0, s.1, h))

pub returns-in-Unfinished : goal.returns-in-Unfinished
returns-in-Unfinished c =
    let h = c.in-Unfinished.ensures.counts [] (inl (refl, refl)) in
    let s = c.in-Unfinished.ensures.step in (
      NoPrefix-count (AnyOf MsgLen) HasPrefix-msg_len c.in-Unfinished.count c.args.octets.now s h,
      Begins-count c.in-Unfinished.count c.args.octets.now s h,
    )

pub returns-in-Broken : goal.returns-in-Broken
returns-in-Broken c =
    let h = c.in-Broken.ensures.counts [] (inl (refl, refl)) in
    let s = c.in-Broken.ensures.step in
    let b = c.args.octets.now in
    let i = c.in-Broken.at in
    let r : Refusal c.in-Broken.count (take i b) (get_or b i 0) = record { small = s.0; digits = h; refuses = s.2 } in
    let n : length (take i b) ≡ i = omega (arith, s.1, length-take i b) in (
      NoPrefix-refusal (AnyOf MsgLen) HasPrefix-msg_len c.in-Broken.count (get_or b i 0) (take i b) (drop (i + 1) b) b r
          (parted_at b i s.1),
      none_begins (AnyOf MsgLen) HasPrefix-msg_len c.in-Broken.count (get_or b i 0) (take i b) (drop (i + 1) b) b r
          (parted_at b i s.1),
      subst (IsFaultOffset (AnyOf MsgLen) b) n
          (offset_of_refusal (AnyOf MsgLen) HasPrefix-msg_len c.in-Broken.count (get_or b i 0) (take i b)
          (drop (i + 1) b) b r (Begins-count c.in-Broken.count (take i b) s.0 h) (parted_at b i s.1)),
    )
