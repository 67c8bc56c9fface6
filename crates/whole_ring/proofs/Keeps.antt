-- WHAT A FAMILY OF EPOCHS OWES by a frame, so that a life of them goes on; and sessions owe it.
use Rattle.std.proofs.Common.{◌≡◌, ℕ, suc, ◌+◌, Bool, false, List, [], ◌∷◌, ◌++◌, length, ap, sym, ◌∙◌, subst, arith, length-append}
use Rattle.std.specs.Prelude.{Option, None}
use Rattle.slave_lives.specs.of_life_model.Eras.{Clearing}
use Rattle.slave_lives.specs.of_life_model.Lives.{Spot, Era, Opening, Stand, new_era}
use Rattle.slave_lives.specs.of_link_mails.Body.{Body}
use Rattle.slave_lives.specs.of_segment_model.Record.{Frame, News}
use Rattle.slave_lives.specs.of_state_model.Accounts.{Pick}
use Rattle.slave_lives.specs.Ends.{LeftEra, LeftEras, YetFrame}
use Rattle.slave_lives.specs.Lived.{Behind, RingFrame, LivesEra, OpenFrame, OpensEra, node_behind, frame_of, opened_era}
use Rattle.slave_lives.specs.Opening.{Plan}
use Rattle.slave_lives.proofs.EraBegins as Begins
use Rattle.slave_lives.proofs.EraEnds as Ends
use Rattle.slave_lives.proofs.Quiets.{lives_yet}
use Rattle.slave_lives.proofs.RingLives as RingLives
use Rattle.whole_ring.specs.Turns.{era_behind}
use Rattle.whole_ring.specs.Whole.{IsWhole, Living, Leaving, Passing}

-- `E` is what is known of the epoch of an open slave before the frame, `F` behind it, `Y` of one whose reopening hasn't reached it, `L` of an epoch that is
-- over, and `P` of all those
pub record Keeps {S V A Q R : Type 0} (w : Behind S V A Q R) (c : Clearing V A) (spot : Spot) (E F Y : Living S A Q R) (L : Leaving S A Q R) (P : Passing A Q R) (stand : Stand) (e : Era Body Q R) (fs : List (Frame Body)) (t : RingFrame S) (more : Body → Bool) (passed : Q → Bool) (pick : Pick Q) (news : List (News Body)) : Type 0 where
  pub session : (from : A) → E from e fs t.node → LivesEra w spot from e fs t.node
  pub still : (from : A) → Y from e fs t.node → LivesEra w spot from e fs t.node
  pub on : stand ≡ Stand.Open → (from : A) → E from e fs t.node → OpenFrame w more passed spot from e fs t pick → F from (era_behind w more passed spot fs t pick news (frame_of w.lens t).fate e) (fs ++ frame_of w.lens t ∷ []) (node_behind w.running t)
  pub stops : stand ≡ Stand.Open → (from : A) → F from (era_behind w more passed spot fs t pick news (frame_of w.lens t).fate e) (fs ++ frame_of w.lens t ∷ []) (node_behind w.running t) →
      Y from (era_behind w more passed spot fs t pick news (frame_of w.lens t).fate e) (fs ++ frame_of w.lens t ∷ []) (node_behind w.running t)
  pub yet : (from : A) → Y from e fs t.node → YetFrame w spot from e fs t → Y from e (fs ++ frame_of w.lens t ∷ []) (node_behind w.running t)
  pub ends : (from : A) → Y from e fs t.node → L from e (fs ++ frame_of w.lens t ∷ []) t.node.server
  pub over : (from : A) (s : S) → L from e fs s → L from e (fs ++ frame_of w.lens t ∷ []) s
  pub begins : (o : Opening) → stand ≡ Stand.Opens o → (q : Plan) (al : ℕ) (cleared : Option ℕ) → (cleared ≡ None → q.start ≡ spot.start) → OpensEra w q spot (node_behind w.running t) →
      F (w.exchange.app (w.sees al (node_behind w.running t).server).server) (opened_era {Q = Q} {R = R} cleared q.start (length fs)) (fs ++ frame_of w.lens t ∷ []) (node_behind w.running t)
  pub past : (first : A) (es : List (Era Body Q R)) (b : A) → P fs first es b → P (fs ++ frame_of w.lens t ∷ []) first es b
  pub closed : (first : A) (es : List (Era Body Q R)) (b : A) → P (fs ++ frame_of w.lens t ∷ []) first es b → (cleared : Option ℕ) (state : ℕ) → e ≡ new_era cleared state → P (fs ++ frame_of w.lens t ∷ []) first (es ++ e ∷ []) (c.cleared b)
  pub left : (first : A) (es : List (Era Body Q R)) (b : A) (s : S) → P (fs ++ frame_of w.lens t ∷ []) first es b → L b e (fs ++ frame_of w.lens t ∷ []) s →
      (al : ℕ) × P (fs ++ frame_of w.lens t ∷ []) first (es ++ e ∷ []) (w.exchange.app (w.sees al (w.running.clear s)).server)

-- SESSIONS keep so
pub sessions : {S V A Q R : Type 0} (w : Behind S V A Q R) (c : Clearing V A) (p : Plan) (spot : Spot) → IsWhole w c p spot → (stand : Stand) (e : Era Body Q R) (fs : List (Frame Body)) (t : RingFrame S) (more : Body → Bool) (passed : Q → Bool) (pick : Pick Q) (news : List (News Body)) →
    Keeps w c spot (LivesEra w spot) (LivesEra w spot) (LivesEra w spot) (LeftEra w spot) (LeftEras w c.cleared spot) stand e fs t more passed pick news
sessions {A = A} {Q = Q} {R = R} w c p spot whole stand e fs t more passed pick news =
    let len : length (fs ++ frame_of w.lens t ∷ []) ≡ suc (length fs) = length-append fs (frame_of w.lens t ∷ []) ∙ (let plus : length fs + 1 ≡ suc (length fs) = omega arith in plus) in
    record {
      session = λ from l. l;
      still = λ from l. l;
      on = λ stands from l o. (RingLives.lived_on w whole.behind more passed spot from e fs t pick news o).lives;
      stops = λ stands from l. l;
      yet = λ from l y. lives_yet w whole.behind (λ m. false) (λ q. false) spot from e fs t y;
      ends = λ from l. Ends.stays w spot from e fs (frame_of w.lens t ∷ []) t.node.server (Ends.ends w spot from e fs t.node l);
      over = λ from s x. Ends.stays w spot from e fs (frame_of w.lens t ∷ []) s x;
      begins = λ opening opens q al cleared start o. (Begins.begun w whole.behind whole.stated whole.tells q spot al cleared (length fs) (fs ++ frame_of w.lens t ∷ []) (node_behind w.running t) len start o).lives;
      past = λ first es b all. Ends.all_stay w c.cleared spot fs (frame_of w.lens t ∷ []) all;
      closed = λ first es b all cleared state is_new. LeftEras.closed first es b e all (ap (λ (d : Era Body Q R). d.opened) is_new);
      left = λ first es b s all x. (
        x.state,
        subst (λ (a : A). LeftEras w c.cleared spot (fs ++ frame_of w.lens t ∷ []) first (es ++ e ∷ []) a) (sym (Ends.clears_to w c whole.clears x.state s)) (LeftEras.opened first es b e s all x),
      );
    }
