-- Whether connections reserve their room, as they are opened, changed and closed.
use Rattle.std.proofs.Common.{◌≡◌, ℕ, Bool, true, false, cond, eqb, refl, sym, ◌∙◌, subst}
use Rattle.std.specs.Prelude.{Option, Some, None}
use Rattle.syslog_collect.specs.declared.connection.Connection.{Connection}
use Rattle.syslog_collect.specs.declared.connections.Connections.{Connections}
use Rattle.syslog_collect.specs.Numbers.{AllReserved, Becomes, Closes, KeepsAll, Opens, connection_in, has_reserved}

abbrev HasRoom : Option Connection → Type 0
HasRoom o = has_reserved o ≡ true

-- one that has reserved none, found by its number
pub grows_at : (c : ℕ) (x : Connection) (cs : Connections) → connection_in cs c ≡ Some x → x.scanner.reserved ≡ false
    → has_reserved (connection_in cs c) ≡ false
grows_at c x cs is grows = subst (λ (o : Option Connection). has_reserved o ≡ false) (sym is) grows

pub reserved_kept : (cs ds : Connections) → KeepsAll cs ds → AllReserved cs → AllReserved ds
reserved_kept cs ds keeps all d = subst HasRoom (sym (keeps.at d)) (all d)

picked : (b : Bool) (u v : Option Connection) → HasRoom u → HasRoom v → HasRoom (cond b u v)
picked true u v h k = h
picked false u v h k = k

pub reserved_opened : (cs ds : Connections) (x : Connection) → Opens cs ds x → x.scanner.reserved ≡ true → AllReserved cs
    → AllReserved ds
reserved_opened cs ds x opens is all d = subst HasRoom (sym (opens.at d))
    (picked (eqb x.number d) (Some x) (connection_in cs d) is (all d))

pub reserved_closed : (cs ds : Connections) (c : ℕ) → Closes cs ds c → AllReserved cs → AllReserved ds
reserved_closed cs ds c closes all d = subst HasRoom (sym (closes.at d)) (picked (eqb c d) None (connection_in cs d) refl (all d))

-- one is changed, and has reserved room as before
pub reserved_changed : (cs ds : Connections) (c : ℕ) (x y : Connection) → connection_in cs c ≡ Some x → Becomes cs ds c y
    → y.scanner.reserved ≡ x.scanner.reserved → AllReserved cs → AllReserved ds
reserved_changed cs ds c x y is becomes same all d = subst HasRoom (sym (becomes.at d))
    (picked (eqb c d) (Some y) (connection_in cs d) (same ∙ subst HasRoom is (all c)) (all d))
