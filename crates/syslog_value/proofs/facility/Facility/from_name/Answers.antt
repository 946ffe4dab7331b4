use Rattle.std.proofs.Common.{◌≡◌, ◌∙◌, sym, ap, get_or, inl, inr, arith}
use Rattle.std.proofs.lemmas.Bool.{cases_lt}
use Rattle.syslog_value.specs.declared.facility.Facility.TheVariants.{Kern}
use Rattle.syslog_value.specs.declared.facility.TheConstants.Facility.{ALL}
use Rattle.syslog_value.specs.Facilities.{facility_code, facility_name}
use Rattle.syslog_value.proofs.Tables.{facility_at, texts_differ}
use Rattle.syslog_value.proofs.facility.Facility.from_name.Goals as goal

pub loop-facility-preserved : goal.loop-facility-preserved
loop-facility-preserved c = λ facility below named.
    elim (cases_lt (facility_code facility) c.loop-facility.facility-index) [
      | inl earlier ↦ c.loop-facility.invariant facility earlier named
      | inr later ↦
          let here : facility_code facility ≡ c.loop-facility.facility-index = omega arith in
          let this = ap (λ i. facility_name (get_or ALL i Kern)) (sym here) ∙ ap facility_name (facility_at facility) in
          texts_differ _ _ (sym c.eq.ensures ∙ c.if-eq.false) (c.name.ensures ∙ this ∙ named)
    ]
