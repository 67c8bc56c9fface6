use Rattle.std.proofs.Common.{◌<◌, sym, subst, arith, length, Some, ◌≡◌, refl}
use Rattle.std.specs.Prelude.{⊤}
use Rattle.life_runs.specs.of_master_tour.Walks.{StepsAt}
use Rattle.master_node.specs.Begins.{LaysOldest}
use Rattle.master_node.specs.Coming.{IsLaid}
use Rattle.master_node.specs.Kept.{StopStays}
use Rattle.master_node.proofs.Kepts.{stop_same, tour_same}
use Rattle.master_node.proofs.Lists.{steps_same, steps_map}
use Rattle.master_node.specs.Origins.{LaysFrom}
use Rattle.master_node.specs.declared.coming.Coming.{Coming}
use Rattle.master_node.specs.Starts.{LaysPacket, WaitsFor}
use Rattle.master_node.specs.Passes.{LaysMail, waits_behind, waits_in}
use Rattle.master_node.specs.Serving.{mails_in}
use Rattle.master_node.proofs.Mailings.{waits_stay}
use Rattle.master_node.specs.Handed.{LaysWork}
use Rattle.master_node.proofs.node.MasterNode.lay_coming.Goals as goal

pub returns-in-Packet-clause-laid : goal.returns-in-Packet-clause-laid
returns-in-Packet-clause-laid c =
    let m = c.args.self.now in
    let l : c.args.place < length m.tour.stops.items = omega (arith, c.requires, m.paired, m.tour.stops.ok.0) in
    let e = c.in-Packet.is in
    subst (λ z. StepsAt (λ s t. StopStays s t × IsLaid (Some z) t.side.hand.laying.laid) c.args.place m.tour.stops.items c.lay_packet.new.self.tour.stops.items) (sym e) c.lay_packet.ensures.laid

pub returns-in-Script-clause-laid : goal.returns-in-Script-clause-laid
returns-in-Script-clause-laid c =
    let m = c.args.self.now in
    let l : c.args.place < length m.tour.stops.items = omega (arith, c.requires, m.paired, m.tour.stops.ok.0) in
    let e = c.in-Script.is in
    subst (λ z. StepsAt (λ s t. StopStays s t × IsLaid (Some z) t.side.hand.laying.laid) c.args.place m.tour.stops.items c.lay_script.new.self.tour.stops.items) (sym e) c.lay_script.ensures.laid

pub returns-in-Mail-clause-laid : goal.returns-in-Mail-clause-laid
returns-in-Mail-clause-laid c =
    let m = c.args.self.now in
    let l : c.args.place < length m.tour.stops.items = omega (arith, c.requires, m.paired, m.tour.stops.ok.0) in
    let e = c.in-Mail.is in
    subst (λ z. StepsAt (λ s t. StopStays s t × IsLaid (Some z) t.side.hand.laying.laid) c.args.place m.tour.stops.items c.lay_mail.new.self.tour.stops.items) (sym e) (steps_map _ _ c.args.place m.tour.stops.items c.lay_mail.new.self.tour.stops.items (λ s t k. (k, tt)) c.lay_mail.ensures.laid)

pub returns-in-State-clause-laid : goal.returns-in-State-clause-laid
returns-in-State-clause-laid c =
    let m = c.args.self.now in
    let l : c.args.place < length m.tour.stops.items = omega (arith, c.requires, m.paired, m.tour.stops.ok.0) in
    let e = c.in-State.is in
    subst (λ z. StepsAt (λ s t. StopStays s t × IsLaid (Some z) t.side.hand.laying.laid) c.args.place m.tour.stops.items c.lay_state.new.self.tour.stops.items) (sym e)
    (subst (λ z. StepsAt (λ s t. StopStays s t × ⊤) c.args.place m.tour.stops.items z.stops.items) (sym c.lay_state.ensures.tour.0) (steps_same _ c.args.place m.tour.stops.items l (λ s. (stop_same s, tt))))

pub returns-in-State-clause-kept : goal.returns-in-State-clause-kept
returns-in-State-clause-kept c = (tour_same c.args.self.now c.lay_state.new.self c.lay_state.ensures.tour.0 c.lay_state.ensures.tour.1, c.lay_state.ensures.quiet)

pub returns-in-Packet-clause-oldest : goal.returns-in-Packet-clause-oldest
returns-in-Packet-clause-oldest c =
    let m = c.args.self.now in
    subst (λ z. StepsAt (λ s t. LaysOldest m.lan c.args.place (Some z) t) c.args.place m.tour.stops.items c.lay_packet.new.self.tour.stops.items) (sym c.in-Packet.is) c.lay_packet.ensures.oldest

pub returns-in-Mail-clause-oldest : goal.returns-in-Mail-clause-oldest
returns-in-Mail-clause-oldest c =
    let m = c.args.self.now in
    subst (λ z. StepsAt (λ s t. LaysOldest m.lan c.args.place (Some z) t) c.args.place m.tour.stops.items c.lay_mail.new.self.tour.stops.items) (sym c.in-Mail.is) (steps_map _ _ c.args.place m.tour.stops.items c.lay_mail.new.self.tour.stops.items (λ s t k. tt) c.lay_mail.ensures.laid)

pub returns-in-Script-clause-oldest : goal.returns-in-Script-clause-oldest
returns-in-Script-clause-oldest c =
    let m = c.args.self.now in
    subst (λ z. StepsAt (λ s t. LaysOldest m.lan c.args.place (Some z) t) c.args.place m.tour.stops.items c.lay_script.new.self.tour.stops.items) (sym c.in-Script.is) (steps_map _ _ c.args.place m.tour.stops.items c.lay_script.new.self.tour.stops.items (λ s t k. tt) c.lay_script.ensures.laid)

pub returns-in-State-clause-oldest : goal.returns-in-State-clause-oldest
returns-in-State-clause-oldest c =
    let m = c.args.self.now in
    let l : c.args.place < length m.tour.stops.items = omega (arith, c.requires, m.paired, m.tour.stops.ok.0) in
    subst (λ z. StepsAt (λ s t. LaysOldest m.lan c.args.place (Some z) t) c.args.place m.tour.stops.items c.lay_state.new.self.tour.stops.items) (sym c.in-State.is)
    (subst (λ z. StepsAt (λ s t. ⊤) c.args.place m.tour.stops.items z.stops.items) (sym c.lay_state.ensures.tour.0) (steps_same _ c.args.place m.tour.stops.items l (λ s. tt)))

pub returns-in-Packet-clause-origins : goal.returns-in-Packet-clause-origins
returns-in-Packet-clause-origins c =
    let m = c.args.self.now in
    let n = c.lay_packet.new.self in
    subst (λ z. StepsAt (λ s t. StepsAt (λ p q. LaysFrom (Some z) s.side.hand.laying.number p q) c.args.place m.posts.items n.posts.items) c.args.place m.tour.stops.items n.tour.stops.items) (sym c.in-Packet.is) c.lay_packet.ensures.origins

pub returns-in-Mail-clause-origins : goal.returns-in-Mail-clause-origins
returns-in-Mail-clause-origins c =
    let m = c.args.self.now in
    let n = c.lay_mail.new.self in
    subst (λ z. StepsAt (λ s t. StepsAt (λ p q. LaysFrom (Some z) s.side.hand.laying.number p q) c.args.place m.posts.items n.posts.items) c.args.place m.tour.stops.items n.tour.stops.items) (sym c.in-Mail.is) c.lay_mail.ensures.origins

pub returns-in-Script-clause-origins : goal.returns-in-Script-clause-origins
returns-in-Script-clause-origins c =
    let m = c.args.self.now in
    let n = c.lay_script.new.self in
    subst (λ z. StepsAt (λ s t. StepsAt (λ p q. LaysFrom (Some z) s.side.hand.laying.number p q) c.args.place m.posts.items n.posts.items) c.args.place m.tour.stops.items n.tour.stops.items) (sym c.in-Script.is) c.lay_script.ensures.origins

pub returns-in-State-clause-origins : goal.returns-in-State-clause-origins
returns-in-State-clause-origins c =
    let m = c.args.self.now in
    let n = c.lay_state.new.self in
    subst (λ z. StepsAt (λ s t. StepsAt (λ p q. LaysFrom (Some z) s.side.hand.laying.number p q) c.args.place m.posts.items n.posts.items) c.args.place m.tour.stops.items n.tour.stops.items) (sym c.in-State.is)
    (steps_map _ _ c.args.place m.tour.stops.items n.tour.stops.items (λ s t h. steps_map _ (λ p q. LaysFrom (Some (Coming.State c.in-State.field-0)) s.side.hand.laying.number p q) c.args.place m.posts.items n.posts.items (λ p q e. record { counts = e.0; origin = e.1; gateway = tt; numbered = e.2; answer = e.3 }) h) c.lay_state.ensures.origins)

pub returns-in-Packet-clause-sure : goal.returns-in-Packet-clause-sure
returns-in-Packet-clause-sure c = λ w.
    let m = c.args.self.now in
    subst (λ z. StepsAt (λ s t. LaysPacket (Some z) t.side.hand.laying.laid) c.args.place m.tour.stops.items c.lay_packet.new.self.tour.stops.items) (sym c.in-Packet.is) (c.lay_packet.ensures.sure (subst (λ z. WaitsFor m.lan c.args.place (Some z)) c.in-Packet.is w))

pub returns-in-Mail-clause-sure : goal.returns-in-Mail-clause-sure
returns-in-Mail-clause-sure c = λ w.
    let m = c.args.self.now in
    subst (λ z. StepsAt (λ s t. LaysPacket (Some z) t.side.hand.laying.laid) c.args.place m.tour.stops.items c.lay_mail.new.self.tour.stops.items) (sym c.in-Mail.is) (steps_map _ _ c.args.place m.tour.stops.items c.lay_mail.new.self.tour.stops.items (λ s t k. tt) c.lay_mail.ensures.laid)

pub returns-in-Script-clause-sure : goal.returns-in-Script-clause-sure
returns-in-Script-clause-sure c = λ w.
    let m = c.args.self.now in
    subst (λ z. StepsAt (λ s t. LaysPacket (Some z) t.side.hand.laying.laid) c.args.place m.tour.stops.items c.lay_script.new.self.tour.stops.items) (sym c.in-Script.is) (steps_map _ _ c.args.place m.tour.stops.items c.lay_script.new.self.tour.stops.items (λ s t k. tt) c.lay_script.ensures.laid)

pub returns-in-State-clause-sure : goal.returns-in-State-clause-sure
returns-in-State-clause-sure c = λ w.
    let m = c.args.self.now in
    let l : c.args.place < length m.tour.stops.items = omega (arith, c.requires, m.paired, m.tour.stops.ok.0) in
    subst (λ z. StepsAt (λ s t. LaysPacket (Some z) t.side.hand.laying.laid) c.args.place m.tour.stops.items c.lay_state.new.self.tour.stops.items) (sym c.in-State.is)
    (subst (λ z. StepsAt (λ s t. ⊤) c.args.place m.tour.stops.items z.stops.items) (sym c.lay_state.ensures.tour.0) (steps_same _ c.args.place m.tour.stops.items l (λ s. tt)))

pub returns-in-Packet-clause-mails : goal.returns-in-Packet-clause-mails
returns-in-Packet-clause-mails c =
    let m = c.args.self.now in
    let k : c.args.place < length m.posts.items = omega (arith, c.requires, m.posts.ok.0) in
    subst (λ z. StepsAt (λ ks ls. ls ≡ waits_behind (Some z) ks) c.args.place (mails_in m) (mails_in c.lay_packet.new.self)) (sym c.in-Packet.is) (waits_stay (Some Coming.Packet) c.args.place m.posts.items (mails_in c.lay_packet.new.self) (λ ks. refl) k c.lay_packet.ensures.mails)

pub returns-in-Packet-clause-ready : goal.returns-in-Packet-clause-ready
returns-in-Packet-clause-ready c =
    let m = c.args.self.now in
    subst (λ z. StepsAt (λ s t. LaysMail (Some z) t.side.out.len (waits_in (mails_in m) c.args.place) t.side.hand.laying) c.args.place m.tour.stops.items c.lay_packet.new.self.tour.stops.items) (sym c.in-Packet.is)
    (steps_map _ _ c.args.place m.tour.stops.items c.lay_packet.new.self.tour.stops.items (λ s t k. tt) c.lay_packet.ensures.laid)

pub returns-in-Script-clause-mails : goal.returns-in-Script-clause-mails
returns-in-Script-clause-mails c =
    let m = c.args.self.now in
    let k : c.args.place < length m.posts.items = omega (arith, c.requires, m.posts.ok.0) in
    subst (λ z. StepsAt (λ ks ls. ls ≡ waits_behind (Some z) ks) c.args.place (mails_in m) (mails_in c.lay_script.new.self)) (sym c.in-Script.is) (waits_stay (Some Coming.Script) c.args.place m.posts.items (mails_in c.lay_script.new.self) (λ ks. refl) k c.lay_script.ensures.mails)

pub returns-in-Script-clause-ready : goal.returns-in-Script-clause-ready
returns-in-Script-clause-ready c =
    let m = c.args.self.now in
    subst (λ z. StepsAt (λ s t. LaysMail (Some z) t.side.out.len (waits_in (mails_in m) c.args.place) t.side.hand.laying) c.args.place m.tour.stops.items c.lay_script.new.self.tour.stops.items) (sym c.in-Script.is)
    (steps_map _ _ c.args.place m.tour.stops.items c.lay_script.new.self.tour.stops.items (λ s t k. tt) c.lay_script.ensures.laid)

pub returns-in-State-clause-mails : goal.returns-in-State-clause-mails
returns-in-State-clause-mails c =
    let m = c.args.self.now in
    let k : c.args.place < length m.posts.items = omega (arith, c.requires, m.posts.ok.0) in
    subst (λ z. StepsAt (λ ks ls. ls ≡ waits_behind (Some z) ks) c.args.place (mails_in m) (mails_in c.lay_state.new.self)) (sym c.in-State.is) (waits_stay (Some (Coming.State c.in-State.field-0)) c.args.place m.posts.items (mails_in c.lay_state.new.self) (λ ks. refl) k c.lay_state.ensures.mails)

pub returns-in-State-clause-ready : goal.returns-in-State-clause-ready
returns-in-State-clause-ready c =
    let m = c.args.self.now in
    subst (λ z. StepsAt (λ s t. LaysMail (Some z) t.side.out.len (waits_in (mails_in m) c.args.place) t.side.hand.laying) c.args.place m.tour.stops.items c.lay_state.new.self.tour.stops.items) (sym c.in-State.is)
    (steps_map _ _ c.args.place m.tour.stops.items c.lay_state.new.self.tour.stops.items (λ s t k. tt) c.lay_state.ensures.origins)

pub returns-in-Mail-clause-mails : goal.returns-in-Mail-clause-mails
returns-in-Mail-clause-mails c =
    subst (λ z. StepsAt (λ ks ls. ls ≡ waits_behind (Some z) ks) c.args.place (mails_in c.args.self.now) (mails_in c.lay_mail.new.self)) (sym c.in-Mail.is) c.lay_mail.ensures.mails

pub returns-in-Mail-clause-ready : goal.returns-in-Mail-clause-ready
returns-in-Mail-clause-ready c =
    let m = c.args.self.now in
    subst (λ z. StepsAt (λ s t. LaysMail (Some z) t.side.out.len (waits_in (mails_in m) c.args.place) t.side.hand.laying) c.args.place m.tour.stops.items c.lay_mail.new.self.tour.stops.items) (sym c.in-Mail.is) c.lay_mail.ensures.ready

pub returns-in-Packet-clause-works : goal.returns-in-Packet-clause-works
returns-in-Packet-clause-works c =
    subst (λ z. StepsAt (λ p q. LaysWork (Some z) p q) c.args.place c.args.self.now.posts.items c.lay_packet.new.self.posts.items) (sym c.in-Packet.is) c.lay_packet.ensures.works

pub returns-in-Script-clause-works : goal.returns-in-Script-clause-works
returns-in-Script-clause-works c =
    subst (λ z. StepsAt (λ p q. LaysWork (Some z) p q) c.args.place c.args.self.now.posts.items c.lay_script.new.self.posts.items) (sym c.in-Script.is) c.lay_script.ensures.works

pub returns-in-Mail-clause-works : goal.returns-in-Mail-clause-works
returns-in-Mail-clause-works c =
    subst (λ z. StepsAt (λ p q. LaysWork (Some z) p q) c.args.place c.args.self.now.posts.items c.lay_mail.new.self.posts.items) (sym c.in-Mail.is) c.lay_mail.ensures.works

pub returns-in-State-clause-works : goal.returns-in-State-clause-works
returns-in-State-clause-works c =
    subst (λ z. StepsAt (λ p q. LaysWork (Some z) p q) c.args.place c.args.self.now.posts.items c.lay_state.new.self.posts.items) (sym c.in-State.is) (c.lay_state.ensures.works c.in-State.field-0)
