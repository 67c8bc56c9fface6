use Rattle.std.proofs.Common.{◌≡◌, ℕ, true, sym, subst, ap, ◌∙◌, refl, false}
use Rattle.std.specs.Prelude.{Bool, is_some}
use Rattle.master_side.specs.of_state_model.Accounts.{duty_access}
use Rattle.master_side.specs.of_frame_view.View.{datagram_seen}
use Rattle.master_side.specs.Shown.{SideShows, wish_begun}
use Rattle.master_side.specs.Carried.{Meant}
use Rattle.master_side.specs.Sent.{visit_gram}
use Rattle.master_tour.specs.Stands.{StopShows, StandShows, StandMeant, stand_gram, is_open}
use Rattle.master_side.specs.Recall.{recall_by}
use Rattle.master_tour.proofs.Visits.{still_next, open_next}
use Rattle.master_tour.proofs.Rooms.{visit_gone, visit_full, visit_opens, visit_open}
use Rattle.master_tour.specs.Passing.{StandPassing}
use Rattle.master_tour.proofs.Passings.{gone_passing, next_still, next_open, passing_waits}
use Rattle.master_tour.proofs.stop.Stop.visit.Goals as goal

pub returns-in-Gone-clause-lives : goal.returns-in-Gone-clause-lives
returns-in-Gone-clause-lives g c = λ x more passed made recover spot lens l a b sp w sh.
    let t = c.args.self.now in
    let s = c.args.self.now.side in
    let stood = (subst (λ z. StopShows (λ d a. SideShows (g.H.Hand.shows s.hand x) s.out s.inn s.fresh s.duty d a) recover spot z t.spare l) c.in-Gone.is sh).stood in
    still_next x g.H.Hand.acknowledged more passed made l _ _ refl (ap is_open stood) (sh, λ u. absurd (cc))

pub returns-then-access_len-room-clause-lives : goal.returns-then-access_len-room-clause-lives
returns-then-access_len-room-clause-lives g c = λ x more passed made recover spot lens l a b sp w sh.
    let t = c.args.self.now in
    let s = c.args.self.now.side in
    let stood = (subst (λ z. StopShows (λ d a. SideShows (g.H.Hand.shows s.hand x) s.out s.inn s.fresh s.duty d a) recover spot z t.spare l) c.in-Opening.is sh).stood in
    still_next x g.H.Hand.acknowledged more passed made l _ _ refl (ap is_open stood.stand) (sh, λ u. absurd (cc))

pub returns-else-access_len-room-clause-lives : goal.returns-else-access_len-room-clause-lives
returns-else-access_len-room-clause-lives g c = λ x more passed made recover spot lens l a b sp w sh.
    let t = c.args.self.now in
    let s = c.args.self.now.side in
    let n = c.opening_visit.new.self in
    let k = c.opening_visit.ensures in
    let up = c.in-Opening.up in
    let stood = (subst (λ z. StopShows (λ d a. SideShows (g.H.Hand.shows s.hand x) s.out s.inn s.fresh s.duty d a) recover spot z t.spare l) c.in-Opening.is sh).stood in
    let first = subst (λ z. StopShows (λ d a. SideShows (g.H.Hand.shows z.hand x) z.out z.inn z.fresh z.duty d a) recover spot t.stand t.spare l) (sym k.side) sh in
    let second = subst (λ z. StopShows (λ d a. SideShows (g.H.Hand.shows n.side.hand x) n.side.out n.side.inn n.side.fresh n.side.duty d a) recover spot z t.spare l) (sym k.stand) first in
    let third = subst (λ z. StopShows (λ d a. SideShows (g.H.Hand.shows n.side.hand x) n.side.out n.side.inn n.side.fresh n.side.duty d a) recover spot n.stand z l) (sym k.kept.2) second in
    still_next x g.H.Hand.acknowledged more passed made l _ _ refl (ap is_open stood.stand)
    (third, λ u. subst (λ z. StandMeant lens n.side.station c.args.index n.side.carried z l (datagram_seen lens (stand_gram n.side.station c.args.index z n.side.out n.side.inn n.side.duty n.side.carried))) (sym (k.stand ∙ c.in-Opening.is)) refl)

pub returns-in-Open-clause-lives : goal.returns-in-Open-clause-lives
returns-in-Open-clause-lives g c = λ x more passed made recover spot lens l a b sp w sh.
    let t = c.args.self.now in
    let s = c.args.self.now.side in
    let n = c.open_visit.new.self in
    let k = c.open_visit.ensures in
    let is = k.stand ∙ c.in-Open.is in
    let stood = (subst (λ z. StopShows (λ d a. SideShows (g.H.Hand.shows s.hand x) s.out s.inn s.fresh s.duty d a) recover spot z t.spare l) c.in-Open.is sh).stood in
    open_next x g.H.Hand.acknowledged more passed made l (is_some s.passing) _
    (λ e r. SideShows (g.H.Hand.shows n.side.hand x) n.side.out n.side.inn n.side.fresh n.side.duty e r × (n.under ≡ true → Meant s.station n.side.carried e.halves (duty_access r.hand) (datagram_seen lens (visit_gram n.side.station c.args.index n.side.out n.side.inn n.side.duty n.side.carried)))) _
    stood.0 (w c.in-Open.is) (λ p. ap (λ (z : Bool). wish_begun z c.args.wish (g.H.Hand.ready s.hand)) (k.still p)) (k.shown x made lens l.era.side l.era.account a b stood.1) (λ p. k.waits p x lens l.era.side l.era.account a b stood.1)
    (λ era r. (
      record {
        stood = subst (λ z. StandShows (λ d a. SideShows (g.H.Hand.shows n.side.hand x) n.side.out n.side.inn n.side.fresh n.side.duty d a) spot z (record l { era = era })) (sym is) (stood.0, r.0);
        spared = k.kept.2 ∙ sh.spared;
        over = λ e. absurd (let v = sym is ∙ e in cc);
      },
      λ u. subst (λ z. StandMeant lens n.side.station c.args.index n.side.carried z (record l { era = era }) (datagram_seen lens (stand_gram n.side.station c.args.index z n.side.out n.side.inn n.side.duty n.side.carried))) (sym is)
          (subst (λ (z : ℕ). Meant z n.side.carried era.side.halves (duty_access era.account.hand) (datagram_seen lens (visit_gram n.side.station c.args.index n.side.out n.side.inn n.side.duty n.side.carried))) (sym k.link.station_is) (r.1 u)),
    ))

pub returns-in-Gone-clause-room : goal.returns-in-Gone-clause-room
returns-in-Gone-clause-room g c = visit_gone c.args.frame.now.items c.args.self.now _ c.in-Gone.is refl

pub returns-then-access_len-room-clause-room : goal.returns-then-access_len-room-clause-room
returns-then-access_len-room-clause-room g c = visit_full c.args.frame.now.items c.args.self.now _ c.in-Opening.up c.access_len.result c.room.result c.in-Opening.is refl c.access_len.ensures.is c.access_len.ensures.most c.room.ensures c.if-access_len-room.true

pub returns-else-access_len-room-clause-room : goal.returns-else-access_len-room-clause-room
returns-else-access_len-room-clause-room g c = let k = c.opening_visit.ensures in visit_opens c.args.frame.now.items c.args.self.now c.opening_visit.new.self c.opening_visit.new.frame.items c.in-Opening.up c.in-Opening.is (k.stand ∙ c.in-Opening.is) k.at.1 k.grows

pub returns-in-Open-clause-room : goal.returns-in-Open-clause-room
returns-in-Open-clause-room g c = let k = c.open_visit.ensures in visit_open c.args.frame.now.items c.args.self.now c.open_visit.new.self c.open_visit.new.frame.items c.in-Open.is (k.stand ∙ c.in-Open.is) k.area k.room k.way k.full

pub returns-in-Gone-clause-passing : goal.returns-in-Gone-clause-passing
returns-in-Gone-clause-passing g c = λ x made recover spot hold l sh h counts. gone_passing x g.H.Hand.acknowledged g.H.Hand.more g.H.Hand.passed c.args.self.now.stand _ _ _ c.in-Gone.is

pub returns-then-access_len-room-clause-passing : goal.returns-then-access_len-room-clause-passing
returns-then-access_len-room-clause-passing g c = λ x made recover spot hold l sh h counts.
    let t = c.args.self.now in
    let s = c.args.self.now.side in
    let stood = (subst (λ z. StopShows (λ d a. SideShows (g.H.Hand.shows s.hand x) s.out s.inn s.fresh s.duty d a) recover spot z t.spare l) c.in-Opening.is sh).stood in
    next_still x g.H.Hand.acknowledged g.H.Hand.more g.H.Hand.passed made l _ t.stand (g.H.Hand.awaits s.hand) s.passing (ap is_open stood.stand) h

pub returns-else-access_len-room-clause-passing : goal.returns-else-access_len-room-clause-passing
returns-else-access_len-room-clause-passing g c = λ x made recover spot hold l sh h counts.
    let t = c.args.self.now in
    let s = c.args.self.now.side in
    let n = c.opening_visit.new.self in
    let k = c.opening_visit.ensures in
    let stood = (subst (λ z. StopShows (λ d a. SideShows (g.H.Hand.shows s.hand x) s.out s.inn s.fresh s.duty d a) recover spot z t.spare l) c.in-Opening.is sh).stood in
    next_still x g.H.Hand.acknowledged g.H.Hand.more g.H.Hand.passed made l _ n.stand (g.H.Hand.awaits n.side.hand) n.side.passing (ap is_open stood.stand)
    (subst (λ z. StandPassing n.stand (g.H.Hand.awaits z.hand) z.passing l) (sym k.side) (subst (λ z. StandPassing z (g.H.Hand.awaits s.hand) s.passing l) (sym k.stand) h))

pub returns-in-Open-clause-passing : goal.returns-in-Open-clause-passing
returns-in-Open-clause-passing g c = λ x made recover spot hold l sh h counts.
    let t = c.args.self.now in
    let s = c.args.self.now.side in
    let n = c.open_visit.new.self in
    let k = c.open_visit.ensures in
    let stood = (subst (λ z. StopShows (λ d a. SideShows (g.H.Hand.shows s.hand x) s.out s.inn s.fresh s.duty d a) recover spot z t.spare l) c.in-Open.is sh).stood in
    let was = subst (λ z. StandPassing z (g.H.Hand.awaits s.hand) s.passing l) c.in-Open.is h in
    next_open x g.H.Hand.acknowledged g.H.Hand.more g.H.Hand.passed made l (wish_begun c.open_visit.result c.args.wish (g.H.Hand.ready s.hand)) hold n.stand (g.H.Hand.awaits n.side.hand) n.side.passing stood.0 (k.stand ∙ c.in-Open.is)
    (λ p. ap (λ (z : Bool). wish_begun z c.args.wish (g.H.Hand.ready s.hand)) (k.still (passing_waits (g.H.Hand.awaits s.hand) s.passing l.era.passing was p)))
    counts (k.passing l.era.passing was)

pub returns-else-access_len-room-clause-recalled : goal.returns-else-access_len-room-clause-recalled
returns-else-access_len-room-clause-recalled g c = ap (λ z. recall_by z.paused z.duty z.passing z.turn (g.H.Hand.knows z.hand)) c.opening_visit.ensures.side

pub returns-in-Gone-clause-takes : goal.returns-in-Gone-clause-takes
returns-in-Gone-clause-takes g c = λ o. absurd (let e = sym c.in-Gone.is ∙ o in cc)

pub returns-in-Gone-clause-begins : goal.returns-in-Gone-clause-begins
returns-in-Gone-clause-begins g c = λ o. absurd (let e = sym c.in-Gone.is ∙ o in cc)

pub returns-then-access_len-room-clause-takes : goal.returns-then-access_len-room-clause-takes
returns-then-access_len-room-clause-takes g c = λ o. absurd (let e = sym c.in-Opening.is ∙ o in cc)

pub returns-then-access_len-room-clause-begins : goal.returns-then-access_len-room-clause-begins
returns-then-access_len-room-clause-begins g c = λ o. absurd (let e = sym c.in-Opening.is ∙ o in cc)

pub returns-else-access_len-room-clause-takes : goal.returns-else-access_len-room-clause-takes
returns-else-access_len-room-clause-takes g c = λ o. absurd (let e = sym c.in-Opening.is ∙ sym c.opening_visit.ensures.stand ∙ o in cc)

pub returns-else-access_len-room-clause-begins : goal.returns-else-access_len-room-clause-begins
returns-else-access_len-room-clause-begins g c = λ o. absurd (let e = sym c.in-Opening.is ∙ o in cc)

pub returns-in-Gone-clause-lacks : goal.returns-in-Gone-clause-lacks
returns-in-Gone-clause-lacks g c = λ b. absurd (let t : false ≡ true = b in cc)

pub returns-then-access_len-room-clause-lacks : goal.returns-then-access_len-room-clause-lacks
returns-then-access_len-room-clause-lacks g c = λ b. absurd (let t : false ≡ true = b in cc)

pub returns-else-access_len-room-clause-lacks : goal.returns-else-access_len-room-clause-lacks
returns-else-access_len-room-clause-lacks g c = λ b. absurd (let t : false ≡ true = b in cc)

pub returns-in-Open-clause-lacks : goal.returns-in-Open-clause-lacks
returns-in-Open-clause-lacks g c = c.open_visit.ensures.lacks
