-- A LIFE TURNS, by how the master stands to the slave; it begins with the slave as it is switched on; and it goes on where the slave is given up.
use Rattle.std.proofs.Common.{◌≡◌, inl, inr, ℕ, Bool, true, false, List, [], ◌∷◌, ◌++◌, length, refl, ap, sym, ◌∙◌, subst}
use Rattle.std.specs.Prelude.{Option, Some, None, if◌then◌else◌, nat_lt}
use Rattle.slave_lives.specs.of_slave_node.Passing.{datagrams_after}
use Rattle.slave_lives.specs.of_frames_seen.Own.{own_of, NoneMeant}
use Rattle.slave_lives.specs.of_frames_seen.Ring.{AllApart}
use Rattle.slave_lives.specs.of_link_mails.Body.{Body}
use Rattle.slave_lives.specs.of_link_model.Segment.{RingFate}
use Rattle.slave_lives.specs.of_segment_model.Record.{Frame, News}
use Rattle.slave_lives.specs.of_segment_model.Slaves.{Found}
use Rattle.slave_lives.specs.of_slave_node.Node.{Node, new_node}
use Rattle.slave_lives.specs.of_state_model.Accounts.{Pick}
use Rattle.slave_lives.specs.of_life_model.Eras.{Clearing}
use Rattle.slave_lives.specs.of_life_model.Lives.{Spot, Era, Opening, Life, Stand, new_life, gives_up, reopening}
use Rattle.slave_lives.specs.Ends.{LeftEra, LeftEras}
use Rattle.slave_lives.specs.Lived.{Behind, LivesEra, RingFrame, is_reached, node_behind, frame_of}
use Rattle.slave_lives.specs.Opening.{Plan, IsPlan}
use Rattle.slave_lives.specs.Rings.{registers_of, come_to}
use Rattle.slave_lives.specs.Stands.{Closing, first_opening, opening_again}
use Rattle.slave_lives.specs.Ways.{OneOnWay}
use Rattle.slave_lives.proofs.Arrives as Arrived
use Rattle.slave_lives.proofs.Closing.{again_is}
use Rattle.slave_lives.proofs.NodeFrames as NodeFrames
use Rattle.whole_ring.specs.Turns.{FrameComes, CameAs, TurnsAs, life_by}
use Rattle.whole_ring.specs.Whole.{IsWhole, Living, Leaving, Passing, OpensBy, StandsBy, IsLivedBy, IsLived, plan_to}
use Rattle.whole_ring.proofs.Keeps.{Keeps, sessions}
use Rattle.whole_ring.proofs.Kept.{none_is_most}
use Rattle.whole_ring.proofs.Open.{steady_of, open_turns}
use Rattle.whole_ring.proofs.Shut.{ShutFrame, runs_behind, boot_behind, shut_stays, shut_goes, stays_so}
use Rattle.whole_ring.proofs.Still.{Nothing, own_first, own_not}

module _ {S V A Q R : Type 0} (w : Behind S V A Q R) (c : Clearing V A) (p : Plan) (spot : Spot) (whole : IsWhole w c p spot) where
  -- SWITCHED ON
  pub begins_by : (E Y : Living S A Q R) (L : Leaving S A Q R) (P : Passing A Q R) → ((a : A) → P [] a [] a) → (al : ℕ) (s : S) → w.running.clear s ≡ s → w.running.next s ≡ None →
      IsLivedBy w E Y L P p spot (w.exchange.app (w.sees al s).server) (new_life {M = Body} {Q = Q} {R = R} spot.start) [] (new_node p.out p.back w.boot s)
  begins_by E Y L P nothing al s clear none =
      let n : Node S = new_node p.out p.back w.boot s in
      let first : Closing w.running w.boot w.lens (plan_to p p.start) (first_opening p.start) n = record { plan = whole.plan; state = refl; closed = Arrived.begins w.running w.boot w.lens p s clear none } in
      record {
        from = w.exchange.app (w.sees al s).server;
        past = nothing (w.exchange.app (w.sees al s).server);
        now = OpensBy.anew (subst (λ (st : ℕ). Closing w.running w.boot w.lens (plan_to p st) (first_opening st) n) whole.start first)
            (record { cleared = None; state = spot.start; is_new = refl; al = al; begins = ap (λ (k : S). w.exchange.app (w.sees al k).server) (sym clear) }) (record { first = λ none. refl; state = inr refl });
        runs = NodeFrames.begins w.running p.out p.back w.boot s clear;
        boot = refl;
      }

  pub begins : (al : ℕ) (s : S) → w.running.clear s ≡ s → w.running.next s ≡ None → IsLived w c p spot (w.exchange.app (w.sees al s).server) (new_life {M = Body} {Q = Q} {R = R} spot.start) [] (new_node p.out p.back w.boot s)
  begins al s clear none = begins_by (LivesEra w spot) (LivesEra w spot) (LeftEra w spot) (LeftEras w c.cleared spot) (λ a. LeftEras.none a) al s clear none

  plan_start : IsPlan w.boot w.lens (plan_to p spot.start)
  plan_start = subst (λ (st : ℕ). IsPlan w.boot w.lens (plan_to p st)) whole.start whole.plan

  -- GIVEN UP: what is known then is known of the next opening's first access
  again_as : (Y : Living S A Q R) (L : Leaving S A Q R) (from : A) (e : Era Body Q R) (fs : List (Frame Body)) (o : Opening) (n : Node S) → OpensBy w Y L p spot from e fs o n → OpensBy w Y L p spot from e fs (opening_again spot.start false) n
  again_as Y L from e fs o n (OpensBy.yet again step plan l) = OpensBy.yet refl refl plan_start l
  again_as Y L from e fs o n (OpensBy.anew cl x first) = OpensBy.anew (record { plan = plan_start; state = refl; closed = Arrived.left_by w.running w.boot w.lens (plan_to p o.state) cl.plan o n spot.start false cl.closed }) x (record { first = λ none. refl; state = inl (refl, inl refl) })
  again_as Y L from e fs o n (OpensBy.over cl again early x) =
      OpensBy.over (record { plan = plan_start; state = refl; closed = Arrived.left_by w.running w.boot w.lens (plan_to p o.state) cl.plan o n spot.start false cl.closed }) refl (inl refl) x

  given_as : (E Y : Living S A Q R) (L : Leaving S A Q R) (from : A) (e : Era Body Q R) (fs : List (Frame Body)) (stand : Stand) (n : Node S) → (E from e fs n → LivesEra w spot from e fs n) → (E from e fs n → Y from e fs n) →
      StandsBy w E Y L p spot from e fs stand n → OpensBy w Y L p spot from e fs (opening_again spot.start false) n
  given_as E Y L from e fs (Stand.Opens o) n session stops now = again_as Y L from e fs o n now
  given_as E Y L from e fs Stand.Open n session stops now =
      OpensBy.yet refl refl plan_start (record { lives = record { epoch = stops now.lives.epoch; answered = now.lives.answered }; steady = steady_of w c p spot whole from e fs n (session now.lives.epoch) now.over now.hand })
  given_as E Y L from e fs Stand.Gone n session stops now = now

  -- `F` may be any family: behind it the slave isn't open
  pub given_by : (E F Y : Living S A Q R) (L : Leaving S A Q R) (P : Passing A Q R) (first : A) (l : Life Body Q R) (fs : List (Frame Body)) (n : Node S) (recover frame : ℕ) →
      ((from : A) → E from l.era fs n → LivesEra w spot from l.era fs n) → ((from : A) → E from l.era fs n → Y from l.era fs n) → IsLivedBy w E Y L P p spot first l fs n → IsLivedBy w F Y L P p spot first (gives_up recover spot frame l) fs n
  given_by E F Y L P first l fs n recover frame session stops i = record { from = i.from; past = i.past; now = go (nat_lt (length l.gave) recover); runs = i.runs; boot = i.boot }
    where
      go : (b : Bool) → StandsBy w F Y L p spot i.from l.era fs (if b then reopening spot.start false else Stand.Gone) n
      go true = given_as E Y L i.from l.era fs l.stand n (session i.from) (stops i.from) i.now
      go false = given_as E Y L i.from l.era fs l.stand n (session i.from) (stops i.from) i.now

  pub given_up : (first : A) (l : Life Body Q R) (fs : List (Frame Body)) (n : Node S) (recover frame : ℕ) → IsLived w c p spot first l fs n → IsLived w c p spot first (gives_up recover spot frame l) fs n
  given_up first l fs n recover frame i = given_by (LivesEra w spot) (LivesEra w spot) (LivesEra w spot) (LeftEra w spot) (LeftEras w c.cleared spot) first l fs n recover frame (λ from era. era) (λ from era. era) i

  -- ONE FRAME
  module _ (first : A) (l : Life Body Q R) (fs : List (Frame Body)) (t : RingFrame S) (more : Body → Bool) (passed : Q → Bool) (pick : Pick Q) (news : List (News Body)) (came : Option (Bool × Option Found)) (E F Y : Living S A Q R) (L : Leaving S A Q R) (P : Passing A Q R) (keeps : Keeps w c spot E F Y L P l.stand l.era fs t more passed pick news)
      (i : IsLivedBy w E Y L P p spot first l fs t.node) where
    -- a frame that has nothing for its station
    nothing_for : (stand : Stand) → FrameComes w p spot stand t → own_of p.station t.datagrams ≡ [] → (is_reached t ≡ true → NoneMeant t.node.registers (come_to t.before t.datagrams)) → Nothing w spot t
    nothing_for stand f own none = record {
      at = f.at;
      own = ap (λ (a : ℕ). own_of a t.datagrams) (sym whole.station) ∙ own;
      none = none;
      apart = λ reached. subst (λ (a : ℕ). AllApart a (registers_of t.before) t.datagrams) whole.station (f.apart reached);
      last = λ reached. subst (λ (a : ℕ). AllApart a (registers_of t.behind) (datagrams_after t.node.registers (come_to t.before t.datagrams))) whole.station (f.last reached);
      roomy = f.roomy;
    }

    shut_frame : (o : Opening) → FrameComes w p spot (Stand.Opens o) t → ShutFrame w p spot o t
    shut_frame o f = record {
      runs = i.runs;
      boot = i.boot;
      roomy = f.roomy;
      one = f.meets;
      nothing = λ again step none. nothing_for (Stand.Opens o) f
          (own_first (plan_to p o.state) spot.place 0 t.datagrams (subst (λ n. OneOnWay (plan_to p o.state) n spot.place 0 t.datagrams) (again_is o again ∙ step) f.sent)) none;
    }

    gone_frame : FrameComes w p spot Stand.Gone t → ShutFrame w p spot (opening_again spot.start false) t
    gone_frame f = record {
      runs = i.runs;
      boot = i.boot;
      roomy = f.roomy;
      one = λ reached. none_is_most (plan_to p spot.start) 1 t.node.registers (come_to t.before t.datagrams) (f.meets reached);
      nothing = λ again step none. nothing_for Stand.Gone f (own_not p spot.place 0 t.datagrams f.sent) none;
    }

    by_stand : (stand : Stand) → l.stand ≡ stand → StandsBy w E Y L p spot i.from l.era fs stand t.node → FrameComes w p spot stand t → TurnsAs w more passed p spot fs t pick news came l.era stand →
        IsLivedBy w F Y L P p spot first (life_by w more passed spot fs t pick news came (frame_of w.lens t).fate l stand) (fs ++ frame_of w.lens t ∷ []) (node_behind w.running t)
    by_stand Stand.Open e now f a =
        open_turns w c p spot whole E F Y L P first i.from l fs t more passed pick news came (subst (λ (st : Stand). Keeps w c spot E F Y L P st l.era fs t more passed pick news) e keeps) e (keeps.past first l.past i.from i.past) now f a
    by_stand (Stand.Opens o) e now f a = go (frame_of w.lens t).fate came a
      where
        sf : ShutFrame w p spot o t
        sf = shut_frame o f

        still : IsLivedBy w F Y L P p spot first l (fs ++ frame_of w.lens t ∷ []) (node_behind w.running t)
        still = stays_so w c p spot whole fs o t sf E F Y L P first i.from l more passed pick news keeps e i.past (shut_stays w c p spot whole fs o t sf E F Y L P first i.from l more passed pick news keeps now)

        go : (fate : RingFate) (came : Option (Bool × Option Found)) → CameAs w p o t came → IsLivedBy w F Y L P p spot first (life_by w more passed spot fs t pick news came fate l (Stand.Opens o)) (fs ++ frame_of w.lens t ∷ []) (node_behind w.running t)
        go RingFate.Back None a = still
        go RingFate.Back (Some back) a = shut_goes w c p spot whole fs o t sf E F Y L P first i.from l more passed pick news keeps e i.past back a now
        go (RingFate.Lost after) came a = still
    by_stand Stand.Gone e now f a = go (frame_of w.lens t).fate
      where
        still : IsLivedBy w F Y L P p spot first l (fs ++ frame_of w.lens t ∷ []) (node_behind w.running t)
        still = record {
          from = i.from;
          past = keeps.past first l.past i.from i.past;
          now = subst (λ (st : Stand). StandsBy w F Y L p spot i.from l.era (fs ++ frame_of w.lens t ∷ []) st (node_behind w.running t)) (sym e)
              (shut_stays w c p spot whole fs (opening_again spot.start false) t (gone_frame f) E F Y L P first i.from l more passed pick news keeps now);
          runs = runs_behind w c p spot whole fs (opening_again spot.start false) t (gone_frame f);
          boot = boot_behind w c p spot whole fs (opening_again spot.start false) t (gone_frame f);
        }

        go : (fate : RingFate) → IsLivedBy w F Y L P p spot first (life_by w more passed spot fs t pick news came fate l Stand.Gone) (fs ++ frame_of w.lens t ∷ []) (node_behind w.running t)
        go RingFate.Back = still
        go (RingFate.Lost after) = still

    pub turns_by : FrameComes w p spot l.stand t → TurnsAs w more passed p spot fs t pick news came l.era l.stand →
        IsLivedBy w F Y L P p spot first (life_by w more passed spot fs t pick news came (frame_of w.lens t).fate l l.stand) (fs ++ frame_of w.lens t ∷ []) (node_behind w.running t)
    turns_by f a = by_stand l.stand refl i.now f a

  -- of sessions
  pub turns : (first : A) (l : Life Body Q R) (fs : List (Frame Body)) (t : RingFrame S) (more : Body → Bool) (passed : Q → Bool) (pick : Pick Q) (news : List (News Body)) (came : Option (Bool × Option Found)) → IsLived w c p spot first l fs t.node →
      FrameComes w p spot l.stand t → TurnsAs w more passed p spot fs t pick news came l.era l.stand → IsLived w c p spot first (life_by w more passed spot fs t pick news came (frame_of w.lens t).fate l l.stand) (fs ++ frame_of w.lens t ∷ []) (node_behind w.running t)
  turns first l fs t more passed pick news came i f a =
      turns_by first l fs t more passed pick news came (LivesEra w spot) (LivesEra w spot) (LivesEra w spot) (LeftEra w spot) (LeftEras w c.cleared spot) (sessions w c p spot whole l.stand l.era fs t more passed pick news) i f a
