-- WHO IS APART from a station: an open slave with another one, and one that nothing means.
use Rattle.std.proofs.Common.{◌≡◌, ℕ, ◌==◌, Bool, true, false, List, [], ◌∷◌, refl, ap, sym, ◌∙◌, subst}
use Rattle.std.specs.Prelude.{if◌then◌else◌}
use Rattle.std.proofs.lemmas.Bool.{eqb-true, ne_eqb, eqb-false}
use Rattle.slave_node.specs.of_datagrams.declared.command.Command.{Command}
use Rattle.slave_node.specs.of_datagrams.declared.command.Command.TheVariants.{Fprd, Fpwr, Fprw}
use Rattle.slave_node.specs.of_datagrams.Datagram as Raw
use Rattle.slave_node.specs.of_esc_registers.declared.registers.Registers as Esc
use Rattle.slave_node.specs.Passing.{passed}
use Rattle.frame_view.specs.of_link_mails.Body.{Body}
use Rattle.slave_node.specs.of_mailbox_slave.Kept.{Kept}
use Rattle.frame_view.specs.of_segment_model.Slaves.{Serving}
use Rattle.frame_view.specs.View.{Lens}
use Rattle.frames_seen.specs.Slaves.{IsOpen}
use Rattle.frames_seen.specs.Spoken.{means, AllSpoken}
use Rattle.frames_seen.specs.Own.{is_to, own_of, IsApart, IsAlone, NoneMeant}
use Rattle.frames_seen.proofs.Boxes.{aimed}
use Rattle.frames_seen.proofs.One.{one_seen}
use Rattle.frames_seen.proofs.Owns.{unmoved}

apart_by : (station : ℕ) (r : Esc.Registers) (d : Raw.Datagram) (c : Command) → (r.station == station) ≡ false → is_to station (aimed d c d.head.adp d.head.ado) ≡ true → means r.station (aimed d c d.head.adp d.head.ado).head ≡ false
apart_by station r d Fprd other to = ne_eqb d.head.adp r.station (λ (e : d.head.adp ≡ r.station). eqb-false r.station station other (sym e ∙ eqb-true d.head.adp station to))
apart_by station r d Fpwr other to = ne_eqb d.head.adp r.station (λ (e : d.head.adp ≡ r.station). eqb-false r.station station other (sym e ∙ eqb-true d.head.adp station to))
apart_by station r d Fprw other to = ne_eqb d.head.adp r.station (λ (e : d.head.adp ≡ r.station). eqb-false r.station station other (sym e ∙ eqb-true d.head.adp station to))
apart_by station r d c other to = absurd (cc)

-- a datagram to a station doesn't mean a slave with another one
pub apart_one : (station : ℕ) (r : Esc.Registers) (d : Raw.Datagram) → (r.station == station) ≡ false → is_to station d ≡ true → means r.station d.head ≡ false
apart_one station r d other to = apart_by station r d d.head.command other to

pub none_apart : (station : ℕ) (r : Esc.Registers) (ds : List Raw.Datagram) → NoneMeant r ds → IsApart station r ds
none_apart station r [] none = tt
none_apart station r (d ∷ ds) none = (λ to. none.0, none_apart station (passed r d).registers ds none.1)

-- an open slave
pub open_apart : {V : Type 0} (lens : ℕ → Lens) (station : ℕ) (r : Esc.Registers) (k : Kept) (v : Serving V Body) (ds : List Raw.Datagram) → (r.station == station) ≡ false → IsOpen lens r → IsAlone r.station r ds →
    AllSpoken r.station (own_of r.station ds) → IsApart station r ds
open_apart lens station r k v [] other open_ alone spoken = tt
open_apart {V = V} lens station r k v (d ∷ ds) other open_ alone spoken = (λ to. apart_one station r d other to, go (λ q x y z w. open_apart lens station q k v ds x y z w) (is_to r.station d) refl)
  where
    go : ((q : Esc.Registers) → (q.station == station) ≡ false → IsOpen lens q → IsAlone q.station q ds → AllSpoken q.station (own_of q.station ds) → IsApart station q ds) → (b : Bool) → is_to r.station d ≡ b → IsApart station (passed r d).registers ds
    go again true mine =
        let own : AllSpoken r.station (d ∷ own_of r.station ds) = subst (λ (b : Bool). AllSpoken r.station (if b then d ∷ own_of r.station ds else own_of r.station ds)) mine spoken in
        let m = one_seen lens r k v d open_ own.0 in
        again (passed r d).registers (ap (λ x. x == station) m.station ∙ other) m.stays
        (subst (λ x. IsAlone x (passed r d).registers ds) (sym m.station) alone.1) (subst (λ x. AllSpoken x (own_of x ds)) (sym m.station) own.1)
    go again false not_mine =
        let e = unmoved r d (alone.0 not_mine) in
        let left : AllSpoken r.station (own_of r.station ds) = subst (λ (b : Bool). AllSpoken r.station (if b then d ∷ own_of r.station ds else own_of r.station ds)) not_mine spoken in
        again (passed r d).registers (ap (λ x. x.station == station) e ∙ other) (subst (λ x. IsOpen lens x) (sym e) open_)
        (subst (λ x. IsAlone x.station (passed r d).registers ds) (sym e) alone.1) (subst (λ x. AllSpoken x.station (own_of x.station ds)) (sym e) left)
