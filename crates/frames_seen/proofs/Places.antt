-- ALONG A RING: a datagram by place means the slave at that place, and no other.
use Rattle.std.proofs.Common.{◌≡◌, ℕ, suc, ◌+◌, ◌-◌, ◌%◌, ◌<◌, ◌==◌, Bool, true, false, List, [], ◌∷◌, length, refl, ap, sym, ◌∙◌, subst, arith}
use Rattle.std.specs.Prelude.{if◌then◌else◌, Option, Some, None}
use Rattle.std.proofs.lemmas.Bool.{ne_eqb, eqb-false}
use Rattle.slave_node.specs.of_datagrams.declared.command.Command.{Command}
use Rattle.slave_node.specs.of_datagrams.declared.command.Command.TheVariants.{Aprd, Apwr, Aprw}
use Rattle.slave_node.specs.of_datagrams.Datagram as Raw
use Rattle.slave_node.specs.of_esc_registers.declared.registers.Registers as Esc
use Rattle.slave_node.specs.of_esc_registers.declared.row.Row.{Row}
use Rattle.slave_node.specs.of_esc_registers.Access.{passed_at, row_of}
use Rattle.slave_node.specs.Passing.{passed, datagram_after, datagrams_after}
use Rattle.frame_view.specs.of_link_mails.Body.{Body}
use Rattle.slave_node.specs.of_mailbox_slave.Kept.{Kept}
use Rattle.frame_view.specs.of_segment_model.Slaves.{Serving}
use Rattle.frame_view.specs.View.{Lens}
use Rattle.frames_seen.specs.Slaves.{IsOpen}
use Rattle.frames_seen.specs.Spoken.{means, AllSpoken}
use Rattle.frames_seen.specs.Own.{is_to, own_of, IsAlone}
use Rattle.frames_seen.specs.Ring.{all_after}
use Rattle.frames_seen.specs.Places.{IsElse, AllElse}
use Rattle.frames_seen.proofs.Boxes.{aimed}
use Rattle.frames_seen.proofs.One.{one_seen}
use Rattle.frames_seen.proofs.Owns.{unmoved}

pub on_by_one : (to passed : ℕ) → to < 16 → passed < 16 → ((65536 - to + passed) % 65536 + 1) % 65536 ≡ (65536 - to + suc passed) % 65536
on_by_one to passed few near = omega arith

pub not_here : (to place : ℕ) → to < 16 → place < 16 → (to == place) ≡ false → ((65536 - to + place) % 65536 == 0) ≡ false
not_here to place few near other = ne_eqb ((65536 - to + place) % 65536) 0 (λ (e : (65536 - to + place) % 65536 ≡ 0). eqb-false to place other (let same : to ≡ place = omega arith in same))

else_row : (place behind : ℕ) (r : Esc.Registers) (d : Raw.Datagram) (row : Option Row) → behind < 16 → (c : Command) → IsElse place behind (aimed d c d.head.adp d.head.ado) →
    IsElse place (suc behind) (record d { head = (passed_at r (aimed d c d.head.adp d.head.ado).head d.body row).head })
else_row place behind r d None near Aprd other = λ by. (let e = other by in (e.0, e.1, e.2, ap (λ a. (a + 1) % 65536) e.3 ∙ on_by_one e.0 behind e.1 near))
else_row place behind r d None near Apwr other = λ by. (let e = other by in (e.0, e.1, e.2, ap (λ a. (a + 1) % 65536) e.3 ∙ on_by_one e.0 behind e.1 near))
else_row place behind r d None near Aprw other = λ by. (let e = other by in (e.0, e.1, e.2, ap (λ a. (a + 1) % 65536) e.3 ∙ on_by_one e.0 behind e.1 near))
else_row place behind r d None near c other = λ by. absurd (cc)
else_row place behind r d (Some row) near Aprd other = λ by. (let e = other by in (e.0, e.1, e.2, ap (λ a. (a + 1) % 65536) e.3 ∙ on_by_one e.0 behind e.1 near))
else_row place behind r d (Some row) near Apwr other = λ by. (let e = other by in (e.0, e.1, e.2, ap (λ a. (a + 1) % 65536) e.3 ∙ on_by_one e.0 behind e.1 near))
else_row place behind r d (Some row) near Aprw other = λ by. (let e = other by in (e.0, e.1, e.2, ap (λ a. (a + 1) % 65536) e.3 ∙ on_by_one e.0 behind e.1 near))
else_row place behind r d (Some row) near c other = λ by. absurd (cc)

pub else_behind : (place behind : ℕ) (r : Esc.Registers) (d : Raw.Datagram) → behind < 16 → IsElse place behind d → IsElse place (suc behind) (datagram_after r d)
else_behind place behind r d near other = else_row place behind r d (if means r.station d.head then row_of r d.head.ado (length d.body) else None) near d.head.command other

pub all_else_behind : (place behind : ℕ) (r : Esc.Registers) (ds : List Raw.Datagram) → behind < 16 → AllElse place behind ds → AllElse place (suc behind) (datagrams_after r ds)
all_else_behind place behind r [] near others = tt
all_else_behind place behind r (d ∷ ds) near others = (else_behind place behind r d near others.0, all_else_behind place behind (passed r d).registers ds near others.1)

-- behind all slaves before it
pub all_else_come : (place behind : ℕ) (rs : List Esc.Registers) (ds : List Raw.Datagram) → behind + length rs < 17 → AllElse place behind ds → AllElse place (behind + length rs) (all_after rs ds)
all_else_come place behind [] ds near others = subst (λ n. AllElse place n ds) (let e : behind ≡ behind + 0 = omega arith in e) others
all_else_come place behind (r ∷ rs) ds near others =
    let next = all_else_come place (suc behind) rs (datagrams_after r ds) (omega arith) (all_else_behind place behind r ds (omega arith) others) in
    subst (λ n. AllElse place n (all_after rs (datagrams_after r ds))) (let e : suc behind + length rs ≡ behind + suc (length rs) = omega arith in e) next

-- at its place it is meant by its station alone
pub alone_by : (place : ℕ) (r : Esc.Registers) (d : Raw.Datagram) (c : Command) → place < 16 → IsElse place place (aimed d c d.head.adp d.head.ado) → is_to r.station (aimed d c d.head.adp d.head.ado) ≡ false →
    means r.station (aimed d c d.head.adp d.head.ado).head ≡ false
alone_by place r d Aprd near other to = let e = other refl in ap (λ a. a == 0) e.3 ∙ not_here e.0 place e.1 near e.2
alone_by place r d Apwr near other to = let e = other refl in ap (λ a. a == 0) e.3 ∙ not_here e.0 place e.1 near e.2
alone_by place r d Aprw near other to = let e = other refl in ap (λ a. a == 0) e.3 ∙ not_here e.0 place e.1 near e.2
alone_by place r d c near other to = to

pub open_alone : {V : Type 0} (lens : ℕ → Lens) (place : ℕ) (r : Esc.Registers) (k : Kept) (v : Serving V Body) (ds : List Raw.Datagram) → place < 16 → IsOpen lens r → AllElse place place ds →
    AllSpoken r.station (own_of r.station ds) → IsAlone r.station r ds
open_alone lens place r k v [] near open_ others spoken = tt
open_alone {V = V} lens place r k v (d ∷ ds) near open_ others spoken =
    (λ to. alone_by place r d d.head.command near others.0 to, go (λ q x z. open_alone lens place q k v ds near x others.1 z) (is_to r.station d) refl)
  where
    go : ((q : Esc.Registers) → IsOpen lens q → AllSpoken q.station (own_of q.station ds) → IsAlone q.station q ds) → (b : Bool) → is_to r.station d ≡ b → IsAlone r.station (passed r d).registers ds
    go again true mine =
        let own : AllSpoken r.station (d ∷ own_of r.station ds) = subst (λ (b : Bool). AllSpoken r.station (if b then d ∷ own_of r.station ds else own_of r.station ds)) mine spoken in
        let m = one_seen lens r k v d open_ own.0 in
        subst (λ x. IsAlone x (passed r d).registers ds) m.station (again (passed r d).registers m.stays (subst (λ x. AllSpoken x (own_of x ds)) (sym m.station) own.1))
    go again false not_mine =
        let e = unmoved r d (alone_by place r d d.head.command near others.0 not_mine) in
        let left : AllSpoken r.station (own_of r.station ds) = subst (λ (b : Bool). AllSpoken r.station (if b then d ∷ own_of r.station ds else own_of r.station ds)) not_mine spoken in
        subst (λ x. IsAlone r.station x ds) (sym e) (again r open_ left)
