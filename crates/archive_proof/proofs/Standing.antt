-- Whether a neighbour stands in the tree.
use Rattle.std.proofs.Common.{◌≡◌, ℕ, List, sym, subst, ◌∙◌}
use Rattle.syslog_reading.specs.WellFormed.{WellFormed}
use Rattle.syslog_grammar.proofs.CanonicalParses.{canonical_well_formed}
use Rattle.archive_text.specs.Entries.{Entry, IsBelow, IsEntry}
use Rattle.archive_text.specs.Faults.{IsEntryFault}
use Rattle.archive_text.specs.declared.fault.EntryFault.{EntryFault}
use Rattle.archive_text.specs.declared.fault.EntryFault.TheVariants.{Bad, NotCanonical}
use Rattle.archive_text.proofs.Texts.{same_octets}
use Rattle.archive_tree.specs.declared.head.TreeHead.{TreeHead}
use Rattle.archive_proof.specs.Showing.{Leads, StandsBefore, StandsBehind}
use Rattle.archive_proof.specs.declared.proof.Neighbour.{Neighbour}

-- octets with a fault are those of no entry
pub no_entry : (b : List ℕ) (fault : EntryFault) (e : Entry) → IsEntryFault b fault → IsEntry e → e.octets ≡ b → ⊥
no_entry b (Bad fault) e h own same =
    h.1 (own.0, subst (WellFormed own.0) same (canonical_well_formed own.0 e.octets own.1.valid own.1.canonical))
no_entry b NotCanonical e h own same = h.1 e own same

module _ (head : TreeHead) (n : Neighbour) (x e : Entry) (entry : IsEntry e) (same : e.octets ≡ n.octets.items) where
  pub before_from : IsBelow e x → Leads head e.octets n.path → StandsBefore head n x
  before_from below leads = record {
    own = e;
    stands = record {
      entry = entry;
      octets = same;
      leads = subst (λ (l : List ℕ). Leads head l n.path) same leads;
    };
    below = below;
  }

  pub before_to : StandsBefore head n x → IsBelow e x × Leads head e.octets n.path
  before_to h =
      let is : h.own ≡ e = same_octets h.own e h.stands.entry entry (h.stands.octets ∙ sym same) in (
        subst (λ (f : Entry). IsBelow f x) is h.below,
        subst (λ (l : List ℕ). Leads head l n.path) (sym same) h.stands.leads,
      )

  pub behind_from : IsBelow x e → Leads head e.octets n.path → StandsBehind head n x
  behind_from below leads = record {
    own = e;
    stands = record {
      entry = entry;
      octets = same;
      leads = subst (λ (l : List ℕ). Leads head l n.path) same leads;
    };
    below = below;
  }

  pub behind_to : StandsBehind head n x → IsBelow x e × Leads head e.octets n.path
  behind_to h =
      let is : h.own ≡ e = same_octets h.own e h.stands.entry entry (h.stands.octets ∙ sym same) in (
        subst (λ (f : Entry). IsBelow x f) is h.below,
        subst (λ (l : List ℕ). Leads head l n.path) (sym same) h.stands.leads,
      )
