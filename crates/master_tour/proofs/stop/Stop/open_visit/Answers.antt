use Rattle.std.proofs.Common.{◌≡◌, sym, subst, ap, ◌∙◌, arith}
use Rattle.master_side.specs.Recall.{recall_by}
use Rattle.master_side.specs.of_state_model.Accounts.{duty_access}
use Rattle.master_tour.proofs.Visits.{picked_map, holds_map, same_shown, same_meant}
use Rattle.master_side.specs.of_mailbox_master.Any.{in_half_of}
use Rattle.master_tour.proofs.Grams.{choice_clear}
use Rattle.master_side.specs.Again.{HasNoRoom}
use Rattle.master_side.proofs.Agains.{area_same}
use Rattle.master_side.specs.First.{HoldsFirst}
use Rattle.master_tour.proofs.stop.Stop.open_visit.Goals as goal

pub returns-clause-shown : goal.returns-clause-shown
returns-clause-shown g c = λ x made lens d a l b s.
    let m = c.choose-began.new.self in
    let n = c.add_datagram-placed.new.self in
    let k = c.choose-began.ensures.link in
    picked_map x g.H.Hand.acknowledged made d a _ _ _ (c.choose-began.ensures.picked x made d a s)
    (λ e r t. (
      same_shown (g.H.Hand.shows m.hand x) (g.H.Hand.shows n.hand x) m.out n.out m.inn n.inn m.fresh n.fresh m.duty n.duty e r c.add_datagram-placed.ensures.kept (λ now w. subst (λ h. g.H.Hand.shows h x now) (sym c.add_datagram-placed.ensures.hand.0) w) t,
      λ u. same_meant lens c.args.index m.out n.out m.inn n.inn m.fresh n.fresh m.duty n.duty m.station n.station c.args.self.now.side.station n.carried e.halves (duty_access r.hand) c.add_datagram-placed.ensures.kept c.add_datagram-placed.ensures.link.0 k.station_is
          (c.add_datagram-placed.ensures.meant u x lens e r (ap (λ z. (lens z).out) k.station_is ∙ l ∙ sym k.out_is) (ap (λ z. (lens z).back) k.station_is ∙ b ∙ sym k.in_is) t),
    ))

pub returns-clause-waits : goal.returns-clause-waits
returns-clause-waits g c = λ p x lens d a l b s.
    let m = c.choose-began.new.self in
    let n = c.add_datagram-placed.new.self in
    let k = c.choose-began.ensures.link in
    holds_map x d _ _ (c.choose-began.ensures.waits p x d a s)
    (λ e t. (
      same_shown (g.H.Hand.shows m.hand x) (g.H.Hand.shows n.hand x) m.out n.out m.inn n.inn m.fresh n.fresh m.duty n.duty e a c.add_datagram-placed.ensures.kept (λ now w. subst (λ h. g.H.Hand.shows h x now) (sym c.add_datagram-placed.ensures.hand.0) w) t,
      λ u. same_meant lens c.args.index m.out n.out m.inn n.inn m.fresh n.fresh m.duty n.duty m.station n.station c.args.self.now.side.station n.carried e.halves (duty_access a.hand) c.add_datagram-placed.ensures.kept c.add_datagram-placed.ensures.link.0 k.station_is
          (c.add_datagram-placed.ensures.meant u x lens e a (ap (λ z. (lens z).out) k.station_is ∙ l ∙ sym k.out_is) (ap (λ z. (lens z).back) k.station_is ∙ b ∙ sym k.in_is) t),
    ))

pub returns-clause-order : goal.returns-clause-order
returns-clause-order g c = λ u f.
    let m = c.choose-began.new.self in
    let k = c.add_datagram-placed.ensures in
    ap (λ z. (in_half_of z).state) k.kept.in_is ∙ choice_clear m.duty m.passing (in_half_of m.inn).state m.turn m.paused m.out.state (sym (k.order u) ∙ f)

pub returns-clause-area : goal.returns-clause-area
returns-clause-area g c = λ n. subst (λ z. HasNoRoom c.args.frame.now.items z) (area_same c.args.self.now.side c.choose-began.new.self c.choose-began.ensures.link.out_is c.choose-began.ensures.link.in_is) (c.add_datagram-placed.ensures.area n)

pub returns-clause-room : goal.returns-clause-room
returns-clause-room g c = λ r.
    let m = c.choose-began.new.self in
    let most = c.choose-began.ensures.again r m.out.state (λ h. h) in (
      λ n. (let long = c.add_datagram-placed.ensures.long n in omega (arith, most, long)),
      λ y. (let same = (c.add_datagram-placed.ensures.way y).1 in omega (arith, most, same)),
    )

pub returns-clause-recalled : goal.returns-clause-recalled
returns-clause-recalled g c =
    let e = c.add_datagram-placed.ensures in
    let same : recall_by c.add_datagram-placed.new.self.paused c.add_datagram-placed.new.self.duty c.add_datagram-placed.new.self.passing c.add_datagram-placed.new.self.turn (g.H.Hand.knows c.add_datagram-placed.new.self.hand) ≡ recall_by c.choose-began.new.self.paused c.choose-began.new.self.duty c.choose-began.new.self.passing c.choose-began.new.self.turn (g.H.Hand.knows c.choose-began.new.self.hand) =
    (λ i. recall_by (e.recalled.0 i) (e.kept.duty_is i) (e.hand.1 i) (e.recalled.1 i) (g.H.Hand.knows (e.hand.0 i))) in
    same ∙ c.choose-began.ensures.recalled

pub returns-clause-takes : goal.returns-clause-takes
returns-clause-takes g c = λ o n k x d a s.
    let m = c.choose-began.new.self in
    let t = c.add_datagram-placed.new.self in
    let e = c.add_datagram-placed.ensures in
    c.choose-began.ensures.rest (ap (λ z. z.state) (sym e.kept.out_is) ∙ n) (ap g.H.Hand.knows (sym e.hand.0) ∙ k) x d a
    (same_shown (g.H.Hand.shows t.hand x) (g.H.Hand.shows m.hand x) t.out m.out t.inn m.inn t.fresh m.fresh t.duty m.duty d a (record { out_is = sym e.kept.out_is; in_is = sym e.kept.in_is; fresh_is = sym e.kept.fresh_is; duty_is = sym e.kept.duty_is }) (λ now w. subst (λ h. g.H.Hand.shows h x now) e.hand.0 w) s)

pub returns-clause-begins : goal.returns-clause-begins
returns-clause-begins g c = λ o n k h p x d a s f q. c.choose-began.ensures.none x d a k s h p f q n

pub returns-clause-lacks : goal.returns-clause-lacks
returns-clause-lacks g c = λ b u w e h.
    let m = c.choose-began.new.self in
    let held = subst (λ z. HoldsFirst w z.state) c.add_datagram-placed.ensures.kept.out_is h in
    subst (λ n. HasNoRoom c.args.frame.now.items n) (c.choose-began.ensures.first b w e m.out.state held) (c.add_datagram-placed.ensures.long u)
