use Rattle.std.proofs.Common.{sym, subst, ◌∙◌, ap, ◌≤◌, get_or, Option, [], ◌≡◌, true, refl, suc, leb-true}
use Rattle.master_side.specs.of_datagrams.Frame.{parts_of}
use Rattle.master_side.specs.of_frame_view.Seen.{part_seen, seen}
use Rattle.master_side.specs.of_link_model.Frames.{all_accepted}
use Rattle.master_side.specs.of_segment_model.Slaves.{grams}
use Rattle.master_side.specs.of_state_model.Accounts.{duty_access}
use Rattle.master_side.specs.Heard.{Brought, HasJoined}
use Rattle.master_side.specs.declared.hand.Heard.{Heard}
use Rattle.master_side.specs.Shown.{SideShows}
use Rattle.master_tour.specs.Under.{no_part}
use Rattle.master_tour.proofs.Unders.{SameAim, aims, none_back, nothing_under, short_under, has_back, accepted_as, has_accepted}
use Rattle.master_tour.proofs.Cursors.{stands_part, stands_in, parts_length, seen_parts}
use Rattle.master_tour.proofs.Joins.{nothing_joined}
use Rattle.master_side.specs.of_life_model.Lives.{passes}
use Rattle.master_side.specs.Passing.{PassingShows, counts_at}
use Rattle.master_tour.proofs.Passings.{has_told, nothing_told}
use Rattle.master_side.specs.Due.{EachDue}
use Rattle.master_tour.proofs.Behinds.{has_met}
use Rattle.master_side.specs.of_link_model.Link.{Halves}
use Rattle.master_side.specs.of_mailbox_master.Any.{in_half_of}
use Rattle.master_side.specs.Counts.{CountsAt}
use Rattle.master_tour.proofs.Counting.{nothing_counted, has_counted, came_counted}
use Rattle.master_tour.proofs.stop.Stop.open_back.Goals as goal

pub body_of-body-requires : goal.body_of-body-requires
body_of-body-requires g c = stands_part c.args.octets.now c.requires.frame.0 c.seek.new.self.number c.seek.new.self.part c.requires.frame.1 c.seek.ensures.stands

pub returns-then-not-self-clause-shown : goal.returns-then-not-self-clause-shown
returns-then-not-self-clause-shown g c = λ x frame lens back d a e s u.
    let w = c.args.self.now.side in
    let ds = c.requires.frame.0 in
    let is = e ∙ seen_parts lens c.args.octets.now ds c.requires.frame.1 in
    none_back x (g.H.Hand.shows w.hand x) w.out w.inn w.fresh w.duty d a frame w.station back (subst (SameAim w.station) (sym is) (aims lens c.args.octets.now w.station (parts_of 16 ds) c.args.self.now.named)) (g.met.H.Hand.quiet w.hand x frame) (nothing_under w.station c.args.self.now.at c.args.self.now.under w.carried d.halves (duty_access a.hand) back c.if-not-self.true u) s

pub returns-else-seek-clause-shown : goal.returns-else-seek-clause-shown
returns-else-seek-clause-shown g c = λ x frame lens back d a e s u.
    let w = c.args.self.now.side in
    let ds = c.requires.frame.0 in
    let is = e ∙ seen_parts lens c.args.octets.now ds c.requires.frame.1 in
    let short = subst (λ n. n ≤ c.args.self.now.at) (sym (parts_length 16 ds)) (c.seek.ensures.none c.if-seek.false ds c.requires.frame.1) in
    none_back x (g.H.Hand.shows w.hand x) w.out w.inn w.fresh w.duty d a frame w.station back (subst (SameAim w.station) (sym is) (aims lens c.args.octets.now w.station (parts_of 16 ds) c.args.self.now.named)) (g.met.H.Hand.quiet w.hand x frame) (short_under w.station c.args.self.now.at c.args.self.now.under w.carried d.halves (duty_access a.hand) (part_seen lens c.args.octets.now) (parts_of 16 ds) back is short u) s

pub returns-then-seek-clause-shown : goal.returns-then-seek-clause-shown
returns-then-seek-clause-shown g c = λ x frame lens back d a e s u.
    let w = c.args.self.now.side in
    let y = c.returned.new.self in
    let ds = c.requires.frame.0 in
    let is = e ∙ seen_parts lens c.args.octets.now ds c.requires.frame.1 in
    let here = stands_in ds c.seek.new.self.number c.seek.new.self.part no_part (c.seek.ensures.stands ds c.requires.frame.1) ∙ ap (λ n. get_or (parts_of 16 ds) n no_part) (c.seek.ensures.at c.if-seek.true) in
    has_back x (λ f k. SideShows (g.H.Hand.shows y.hand x) y.out y.inn y.fresh y.duty f k) frame w.station c.args.self.now.at c.args.self.now.under w.carried (duty_access a.hand) lens c.args.octets.now c.body_of-body.result.now (parts_of 16 ds) _ no_part back d a c.if-not-self.false here c.body_of-body.ensures is (subst (SameAim w.station) (sym is) (aims lens c.args.octets.now w.station (parts_of 16 ds) c.args.self.now.named)) u
    (λ b m i. c.returned.ensures.shown x frame b d a s m i)

pub returns-then-not-self-clause-brought : goal.returns-then-not-self-clause-brought
returns-then-not-self-clause-brought g c = λ n x lens back d a e s u.
    let w = c.args.self.now.side in
    subst (λ (o : Option Heard). Brought (g.H.Hand.brings w.hand) o (all_accepted w.station d.halves (grams back))) (sym n)
    (accepted_as w.station back [] d.halves (nothing_under w.station c.args.self.now.at c.args.self.now.under w.carried d.halves (duty_access a.hand) back c.if-not-self.true u))

pub returns-else-seek-clause-brought : goal.returns-else-seek-clause-brought
returns-else-seek-clause-brought g c = λ n x lens back d a e s u.
    let w = c.args.self.now.side in
    let ds = c.requires.frame.0 in
    let is = e ∙ seen_parts lens c.args.octets.now ds c.requires.frame.1 in
    let short = subst (λ n. n ≤ c.args.self.now.at) (sym (parts_length 16 ds)) (c.seek.ensures.none c.if-seek.false ds c.requires.frame.1) in
    subst (λ (o : Option Heard). Brought (g.H.Hand.brings w.hand) o (all_accepted w.station d.halves (grams back))) (sym n)
    (accepted_as w.station back [] d.halves (short_under w.station c.args.self.now.at c.args.self.now.under w.carried d.halves (duty_access a.hand) (part_seen lens c.args.octets.now) (parts_of 16 ds) back is short u))

pub returns-then-seek-clause-brought : goal.returns-then-seek-clause-brought
returns-then-seek-clause-brought g c = λ n x lens back d a e s u.
    let w = c.args.self.now.side in
    let y = c.returned.new.self in
    let ds = c.requires.frame.0 in
    let is = e ∙ seen_parts lens c.args.octets.now ds c.requires.frame.1 in
    let here = stands_in ds c.seek.new.self.number c.seek.new.self.part no_part (c.seek.ensures.stands ds c.requires.frame.1) ∙ ap (λ n. get_or (parts_of 16 ds) n no_part) (c.seek.ensures.at c.if-seek.true) in
    has_accepted (λ ms. Brought (g.H.Hand.brings y.hand) y.heard ms) w.station c.args.self.now.at c.args.self.now.under w.carried (duty_access a.hand) lens c.args.octets.now c.body_of-body.result.now (parts_of 16 ds) _ no_part back d.halves c.if-not-self.false here c.body_of-body.ensures is u
    (λ b m i. c.returned.ensures.brought n x b d a s m i)

pub returns-then-not-self-clause-replied : goal.returns-then-not-self-clause-replied
returns-then-not-self-clause-replied g c = λ n x lens d a s u.
    let w = c.args.self.now.side in
    let back = seen lens c.args.octets.now in
    subst (λ (o : Option Heard). Brought (g.H.Hand.replied w.hand (g.H.Hand.awaits w.hand)) o (all_accepted w.station d.halves (grams back))) (sym n)
    (accepted_as w.station back [] d.halves (nothing_under w.station c.args.self.now.at c.args.self.now.under w.carried d.halves (duty_access a.hand) back c.if-not-self.true u))

pub returns-else-seek-clause-replied : goal.returns-else-seek-clause-replied
returns-else-seek-clause-replied g c = λ n x lens d a s u.
    let w = c.args.self.now.side in
    let back = seen lens c.args.octets.now in
    let ds = c.requires.frame.0 in
    let is = seen_parts lens c.args.octets.now ds c.requires.frame.1 in
    let short = subst (λ n. n ≤ c.args.self.now.at) (sym (parts_length 16 ds)) (c.seek.ensures.none c.if-seek.false ds c.requires.frame.1) in
    subst (λ (o : Option Heard). Brought (g.H.Hand.replied w.hand (g.H.Hand.awaits w.hand)) o (all_accepted w.station d.halves (grams back))) (sym n)
    (accepted_as w.station back [] d.halves (short_under w.station c.args.self.now.at c.args.self.now.under w.carried d.halves (duty_access a.hand) (part_seen lens c.args.octets.now) (parts_of 16 ds) back is short u))

pub returns-then-seek-clause-replied : goal.returns-then-seek-clause-replied
returns-then-seek-clause-replied g c = λ n x lens d a s u.
    let w = c.args.self.now.side in
    let y = c.returned.new.self in
    let back = seen lens c.args.octets.now in
    let ds = c.requires.frame.0 in
    let is = seen_parts lens c.args.octets.now ds c.requires.frame.1 in
    let here = stands_in ds c.seek.new.self.number c.seek.new.self.part no_part (c.seek.ensures.stands ds c.requires.frame.1) ∙ ap (λ n. get_or (parts_of 16 ds) n no_part) (c.seek.ensures.at c.if-seek.true) in
    has_accepted (λ ms. Brought (g.H.Hand.replied y.hand (g.H.Hand.awaits w.hand)) y.heard ms) w.station c.args.self.now.at c.args.self.now.under w.carried (duty_access a.hand) lens c.args.octets.now c.body_of-body.result.now (parts_of 16 ds) _ no_part back d.halves c.if-not-self.false here c.body_of-body.ensures is u
    (λ b m i. c.returned.ensures.replied n x b d a s m i)

pub returns-then-not-self-clause-joined : goal.returns-then-not-self-clause-joined
returns-then-not-self-clause-joined g c = λ n x lens back d a e s u.
    let w = c.args.self.now.side in
    nothing_joined g.H.Hand.joined (g.H.Hand.completed w.hand) (g.H.Hand.join w.hand) w.heard (all_accepted w.station d.halves (grams back)) n
    (accepted_as w.station back [] d.halves (nothing_under w.station c.args.self.now.at c.args.self.now.under w.carried d.halves (duty_access a.hand) back c.if-not-self.true u))

pub returns-else-seek-clause-joined : goal.returns-else-seek-clause-joined
returns-else-seek-clause-joined g c = λ n x lens back d a e s u.
    let w = c.args.self.now.side in
    let ds = c.requires.frame.0 in
    let is = e ∙ seen_parts lens c.args.octets.now ds c.requires.frame.1 in
    let short = subst (λ n. n ≤ c.args.self.now.at) (sym (parts_length 16 ds)) (c.seek.ensures.none c.if-seek.false ds c.requires.frame.1) in
    nothing_joined g.H.Hand.joined (g.H.Hand.completed w.hand) (g.H.Hand.join w.hand) w.heard (all_accepted w.station d.halves (grams back)) n
    (accepted_as w.station back [] d.halves (short_under w.station c.args.self.now.at c.args.self.now.under w.carried d.halves (duty_access a.hand) (part_seen lens c.args.octets.now) (parts_of 16 ds) back is short u))

pub returns-then-seek-clause-joined : goal.returns-then-seek-clause-joined
returns-then-seek-clause-joined g c = λ n x lens back d a e s u.
    let w = c.args.self.now.side in
    let y = c.returned.new.self in
    let ds = c.requires.frame.0 in
    let is = e ∙ seen_parts lens c.args.octets.now ds c.requires.frame.1 in
    let here = stands_in ds c.seek.new.self.number c.seek.new.self.part no_part (c.seek.ensures.stands ds c.requires.frame.1) ∙ ap (λ n. get_or (parts_of 16 ds) n no_part) (c.seek.ensures.at c.if-seek.true) in
    has_accepted (λ ms. HasJoined g.H.Hand.joined (g.H.Hand.completed y.hand) (g.H.Hand.join w.hand) (g.H.Hand.join y.hand) y.heard ms) w.station c.args.self.now.at c.args.self.now.under w.carried (duty_access a.hand) lens c.args.octets.now c.body_of-body.result.now (parts_of 16 ds) _ no_part back d.halves c.if-not-self.false here c.body_of-body.ensures is u
    (λ b m i. c.returned.ensures.joined n x b d a s m i)

pub returns-then-not-self-clause-passing : goal.returns-then-not-self-clause-passing
returns-then-not-self-clause-passing g c = λ x lens kept p back d a e s k h u.
    let w = c.args.self.now.side in
    let ds = c.requires.frame.0 in
    let is = e ∙ seen_parts lens c.args.octets.now ds c.requires.frame.1 in
    nothing_told x g.H.Hand.acknowledged g.H.Hand.more g.H.Hand.passed w.station kept (counts_at w.read_at w.pace c.args.made) back (g.H.Hand.awaits w.hand) w.passing p (subst (SameAim w.station) (sym is) (aims lens c.args.octets.now w.station (parts_of 16 ds) c.args.self.now.named))
    (nothing_under w.station c.args.self.now.at c.args.self.now.under w.carried d.halves (duty_access a.hand) back c.if-not-self.true u) h

pub returns-else-seek-clause-passing : goal.returns-else-seek-clause-passing
returns-else-seek-clause-passing g c = λ x lens kept p back d a e s k h u.
    let w = c.args.self.now.side in
    let ds = c.requires.frame.0 in
    let is = e ∙ seen_parts lens c.args.octets.now ds c.requires.frame.1 in
    let short = subst (λ n. n ≤ c.args.self.now.at) (sym (parts_length 16 ds)) (c.seek.ensures.none c.if-seek.false ds c.requires.frame.1) in
    nothing_told x g.H.Hand.acknowledged g.H.Hand.more g.H.Hand.passed w.station kept (counts_at w.read_at w.pace c.args.made) back (g.H.Hand.awaits w.hand) w.passing p (subst (SameAim w.station) (sym is) (aims lens c.args.octets.now w.station (parts_of 16 ds) c.args.self.now.named))
    (short_under w.station c.args.self.now.at c.args.self.now.under w.carried d.halves (duty_access a.hand) (part_seen lens c.args.octets.now) (parts_of 16 ds) back is short u) h

pub returns-then-seek-clause-passing : goal.returns-then-seek-clause-passing
returns-then-seek-clause-passing g c = λ x lens kept p back d a e s k h u.
    let w = c.args.self.now.side in
    let y = c.returned.new.self in
    let ds = c.requires.frame.0 in
    let is = e ∙ seen_parts lens c.args.octets.now ds c.requires.frame.1 in
    let here = stands_in ds c.seek.new.self.number c.seek.new.self.part no_part (c.seek.ensures.stands ds c.requires.frame.1) ∙ ap (λ n. get_or (parts_of 16 ds) n no_part) (c.seek.ensures.at c.if-seek.true) in
    has_told (λ ns. PassingShows (g.H.Hand.awaits y.hand) y.passing (passes x g.H.Hand.acknowledged g.H.Hand.more g.H.Hand.passed p ns)) w.station c.args.self.now.at kept (counts_at w.read_at w.pace c.args.made) c.args.self.now.under w.carried (duty_access a.hand) lens c.args.octets.now c.body_of-body.result.now (parts_of 16 ds) _ no_part back d.halves
    c.if-not-self.false here c.body_of-body.ensures is (subst (SameAim w.station) (sym is) (aims lens c.args.octets.now w.station (parts_of 16 ds) c.args.self.now.named)) u
    (λ b m i. c.returned.ensures.passing x kept p b d a s k h m i)

pub returns-then-not-self-clause-met : goal.returns-then-not-self-clause-met
returns-then-not-self-clause-met g c = λ r x lens back d a e s u b n. absurd (let t = sym c.if-not-self.true ∙ r in cc)

pub returns-else-seek-clause-met : goal.returns-else-seek-clause-met
returns-else-seek-clause-met g c = λ r x lens back d a e s u b n.
    let w = c.args.self.now.side in
    let ds = c.requires.frame.0 in
    let is = e ∙ seen_parts lens c.args.octets.now ds c.requires.frame.1 in
    let short = subst (λ n. n ≤ c.args.self.now.at) (sym (parts_length 16 ds)) (c.seek.ensures.none c.if-seek.false ds c.requires.frame.1) in
    absurd (let t = sym (short_under w.station c.args.self.now.at c.args.self.now.under w.carried d.halves (duty_access a.hand) (part_seen lens c.args.octets.now) (parts_of 16 ds) back is short u) ∙ n in cc)

pub returns-then-seek-clause-met : goal.returns-then-seek-clause-met
returns-then-seek-clause-met g c = λ r x lens back d a e s u b n.
    let w = c.args.self.now.side in
    let ds = c.requires.frame.0 in
    let is = e ∙ seen_parts lens c.args.octets.now ds c.requires.frame.1 in
    let here = stands_in ds c.seek.new.self.number c.seek.new.self.part no_part (c.seek.ensures.stands ds c.requires.frame.1) ∙ ap (λ n. get_or (parts_of 16 ds) n no_part) (c.seek.ensures.at c.if-seek.true) in
    let k = has_met w.station c.args.self.now.at c.args.self.now.under w.carried (duty_access a.hand) lens c.args.octets.now c.body_of-body.result.now (parts_of 16 ds) _ no_part back d.halves b c.if-not-self.false here c.body_of-body.ensures is u n in
    record {
      counter = c.seek.new.self.part.head.counter;
      octets = c.body_of-body.result.now;
      back = k.1;
      paused = c.returned.ensures.paused;
      turn = c.returned.ensures.turn;
      duty = λ frame. (c.returned.ensures.shown x frame b d a s k.0 k.1).state;
      unpassed = c.returned.ensures.unpassed;
    }

pub returns-then-not-self-clause-unmet : goal.returns-then-not-self-clause-unmet
returns-then-not-self-clause-unmet g c = λ r. refl

pub returns-else-seek-clause-unmet : goal.returns-else-seek-clause-unmet
returns-else-seek-clause-unmet g c = λ r. refl

pub returns-then-seek-clause-unmet : goal.returns-then-seek-clause-unmet
returns-then-seek-clause-unmet g c = λ r. absurd (let t = sym r ∙ c.if-not-self.false in cc)

pub returns-then-not-self-clause-knows : goal.returns-then-not-self-clause-knows
returns-then-not-self-clause-knows g c = λ x lens back d a e s u k due. k

pub returns-else-seek-clause-knows : goal.returns-else-seek-clause-knows
returns-else-seek-clause-knows g c = λ x lens back d a e s u k due. k

pub returns-then-seek-clause-knows : goal.returns-then-seek-clause-knows
returns-then-seek-clause-knows g c = λ x lens back d a e s u.
    let w = c.args.self.now.side in
    let y = c.returned.new.self in
    let ds = c.requires.frame.0 in
    let is = e ∙ seen_parts lens c.args.octets.now ds c.requires.frame.1 in
    let here = stands_in ds c.seek.new.self.number c.seek.new.self.part no_part (c.seek.ensures.stands ds c.requires.frame.1) ∙ ap (λ n. get_or (parts_of 16 ds) n no_part) (c.seek.ensures.at c.if-seek.true) in
    has_accepted (λ ms. g.H.Hand.knows w.hand ≡ true → EachDue x d.now ms → g.H.Hand.knows y.hand ≡ true) w.station c.args.self.now.at c.args.self.now.under w.carried (duty_access a.hand) lens c.args.octets.now c.body_of-body.result.now (parts_of 16 ds) _ no_part back d.halves c.if-not-self.false here c.body_of-body.ensures is u
    (λ b m i. c.returned.ensures.knows x b d a s m i)

pub returns-then-seek-clause-sure : goal.returns-then-seek-clause-sure
returns-then-seek-clause-sure g c = λ k. c.returned.ensures.sure k

pub returns-then-not-self-clause-counts : goal.returns-then-not-self-clause-counts
returns-then-not-self-clause-counts g c = λ x lens counts back d a e s u k.
    let w = c.args.self.now.side in
    nothing_counted w.station w.pace c.args.made w.read_at counts back (leb-true 1 w.pace w.paced)
    (nothing_under w.station c.args.self.now.at c.args.self.now.under w.carried d.halves (duty_access a.hand) back c.if-not-self.true u) k

pub returns-else-seek-clause-counts : goal.returns-else-seek-clause-counts
returns-else-seek-clause-counts g c = λ x lens counts back d a e s u k.
    let w = c.args.self.now.side in
    let ds = c.requires.frame.0 in
    let is = e ∙ seen_parts lens c.args.octets.now ds c.requires.frame.1 in
    let short = subst (λ n. n ≤ c.args.self.now.at) (sym (parts_length 16 ds)) (c.seek.ensures.none c.if-seek.false ds c.requires.frame.1) in
    nothing_counted w.station w.pace c.args.made w.read_at counts back (leb-true 1 w.pace w.paced)
    (short_under w.station c.args.self.now.at c.args.self.now.under w.carried d.halves (duty_access a.hand) (part_seen lens c.args.octets.now) (parts_of 16 ds) back is short u) k

pub returns-then-seek-clause-counts : goal.returns-then-seek-clause-counts
returns-then-seek-clause-counts g c = λ x lens counts back d a e s u k.
    let w = c.args.self.now.side in
    let y = c.returned.new.self in
    let ds = c.requires.frame.0 in
    let is = e ∙ seen_parts lens c.args.octets.now ds c.requires.frame.1 in
    let here = stands_in ds c.seek.new.self.number c.seek.new.self.part no_part (c.seek.ensures.stands ds c.requires.frame.1) ∙ ap (λ n. get_or (parts_of 16 ds) n no_part) (c.seek.ensures.at c.if-seek.true) in
    has_counted (λ z. CountsAt y.read_at y.pace (suc c.args.made) z) w.station c.args.self.now.at w.pace c.args.made counts c.args.self.now.under w.carried (duty_access a.hand) lens c.args.octets.now c.body_of-body.result.now (parts_of 16 ds) _ no_part back d.halves
    c.if-not-self.false here c.body_of-body.ensures is u
    (λ b m i. came_counted w.station w.pace y.pace c.args.made w.read_at y.read_at counts d b _ _ w.carried (duty_access a.hand) (in_half_of w.inn).state (leb-true 1 w.pace w.paced) (ap (λ (h : Halves _). h.inn.state) s.halves)
    c.returned.ensures.read.1 c.returned.ensures.read.0 k m i)
