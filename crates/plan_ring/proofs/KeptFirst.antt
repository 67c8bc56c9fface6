-- A SLAVE IN ITS FIRST EPOCH: its life is an open one of the book.
use Rattle.std.proofs.Common.{◌≡◌, ℕ, ◌-◌, Bool, List, [], ◌∷◌, ◌++◌, take, drop, length, refl, ap, sym, ◌∙◌, subst, arith, append-nil}
use Rattle.std.specs.Prelude.{Option, Some, None, is_some, if◌then◌else◌}
use Rattle.slave_server.specs.of_link_mails.Body.{Body}
use Rattle.slave_server.specs.of_segment_model.Record.{Frame}
use Rattle.slave_server.specs.of_slave_node.Node.{Node}
use Rattle.whole_ring.specs.of_life_model.Book.{SlaveBook}
use Rattle.whole_ring.specs.of_life_model.Eras.{Clearing}
use Rattle.whole_ring.specs.of_life_model.Lives.{Spot, Life, Era, Stand}
use Rattle.whole_ring.specs.of_life_model.Chain.{Epoch, booked, behind_clear, Written, Chained, AreLeft, AllBegin}
use Rattle.whole_ring.specs.of_life_model.Answers.{between}
use Rattle.whole_ring.specs.of_life_model.Open.{Setting, Begun, IsOpenLife, IsIdle}
use Rattle.whole_ring.specs.of_slave_lives.Ends.{LeftEras}
use Rattle.whole_ring.specs.of_slave_lives.Lived.{Behind, LivesEra, node_seen}
use Rattle.whole_ring.specs.of_slave_lives.Opening.{Plan}
use Rattle.whole_ring.specs.Whole.{OwesLaws, LivesOpen, StandsAs, IsLived}
use Rattle.slave_server.specs.of_segment_model.Laws.{IsSettled, WantsNothing}
use Rattle.whole_ring.proofs.of_life_model.Opens.{open_answers, open_epochs, open_state, open_rests, open_each}
use Rattle.whole_ring.proofs.of_life_model.Scripts.{open_rows}
use Rattle.plan_ring.specs.KeptFirst.{Forgets, setting_of, FirstBook}
use Rattle.plan_ring.specs.Rows.{IsFirst, StandsFirst}

pub no_end : {X : Type 0} (xs : List X) (x : X) → xs ++ x ∷ [] ≡ [] → ⊥
no_end [] x e = let no_ : x ∷ [] ≡ [] = e in cc
no_end (y ∷ ys) x e = let no_ : y ∷ (ys ++ x ∷ []) ≡ [] = e in cc

pub some_none : {X : Type 0} (x : X) → Some x ≡ None → ⊥
some_none x e = cc

-- no epoch leaves what it began with
pub none_left : {S V A Q R : Type 0} (w : Behind S V A Q R) (cleared : A → A) (spot : Spot) (fs : List (Frame Body)) (a : A) (es : List (Era Body Q R)) (b : A) → LeftEras w cleared spot fs a es b → es ≡ [] → b ≡ a
none_left w cleared spot fs a _ _ (LeftEras.none _) e = refl
none_left w cleared spot fs a _ _ (LeftEras.closed _ es b x l shut) e = absurd (no_end es x e)
none_left w cleared spot fs a _ _ (LeftEras.opened _ es b x s l left) e = absurd (no_end es x e)

pub nothing_left : {X : Type 0} (n : ℕ) (xs : List X) → between n n xs ≡ []
nothing_left n xs = ap (λ (k : ℕ). take k (drop n xs)) (let e : n - n ≡ 0 = omega arith in e)

module _ {S V A Q R : Type 0} (w : Behind S V A Q R) (c : Clearing V A) (p : Plan) (spot : Spot) (owes : OwesLaws w c p spot) (f : Forgets w c) (more : Body → Bool) (first : A) (l : Life Body Q R) (fs : List (Frame Body)) (n : Node S)
    (i : IsLived w c p spot first l fs n) (is : IsFirst (length fs) l) (open_ : l.stand ≡ Stand.Open) where
  abbrev x : Setting V A Body Q R
  x = setting_of w c p spot owes f more fs

  pub now : LivesOpen w spot i.from l.era fs n
  now = subst (λ (st : Stand). StandsAs w p spot i.from l.era fs st n) open_ i.now

  pub stands : StandsFirst (length fs) l Stand.Open
  stands = subst (λ (st : Stand). StandsFirst (length fs) l st) open_ is.stands

  module _ (k : LivesEra w spot i.from l.era fs n) where
    -- the epoch
    abbrev pub epoch : Epoch x.exchange x.lawful x.states x.stated x.processor x.table x.cleared x.more x.spot x.frames
    epoch = record {
      era = l.era;
      opened = k.opened;
      until = length fs;
      server = k.server;
      registers = k.registers;
      slave = node_seen w n;
      is = k.is;
      rows = l.era.account.started;
      tail = [];
      all = sym (append-nil l.era.account.started);
      quiet = is.quiet;
      last = tt;
    }

    -- the book
    abbrev pub book : SlaveBook A Body Q R
    book = record {
      first = first;
      app = w.exchange.app (node_seen w n).node.server.server;
      state = (node_seen w n).registers.state;
      start = spot.start;
      epochs = booked x.exchange x.lawful x.states x.stated x.processor x.table x.cleared x.more x.spot x.frames epoch ∷ [];
      gave = [];
      given_up = None;
    }

    pub same_opened : stands.0 ≡ k.opened
    same_opened = let e : Some stands.0 ≡ Some k.opened = sym stands.1 ∙ k.is.opened_at in cc

    pub begins : w.exchange.app k.server ≡ w.states.told spot.start (behind_clear c.cleared l.era.cleared first)
    begins =
        k.begins ∙ ap (λ (s : ℕ). w.states.told s i.from) (k.first is.cleared)
        ∙ ap (w.states.told spot.start) (none_left w c.cleared spot fs first l.past i.from i.past is.past ∙ ap (λ (o : Option ℕ). if is_some o then c.cleared first else first) (sym is.cleared))

    -- AN OPEN LIFE
    abbrev pub open_life : IsOpenLife x book
    open_life = record {
      past = [];
      carry = [];
      left = first;
      epoch = epoch;
      body = booked x.exchange x.lawful x.states x.stated x.processor x.table x.cleared x.more x.spot x.frames epoch;
      last = booked x.exchange x.lawful x.states x.stated x.processor x.table x.cleared x.more x.spot x.frames epoch;
      before = Chained.none;
      inside = tt;
      begun = Begun.taken_up first begins;
      timed = record {
        returned = λ frame e. absurd (some_none frame (sym e ∙ is.cleared));
        since = k.before;
        within = omega arith;
        begins = subst (λ (o : ℕ). AllBegin o l.era.account.started) same_opened stands.3;
        behind = subst (AreLeft spot.station) (sym (nothing_left (length fs) fs)) tt;
        gives = tt;
      };
      written = Written.whole refl;
      epochs = refl;
    }

  pub k_of : LivesEra w spot i.from l.era fs n
  k_of = now.lives.epoch

  -- THE BOOK OF IT
  pub first_book : FirstBook w c p spot owes f more first l fs n
  first_book =
      let k = k_of in
      let b = book k in
      let o = open_life k in
      let idle : IsSettled (node_seen w n) → WantsNothing w.exchange.speech l.era.side → l.era.account.hand ≡ None → IsIdle x b o = λ settled wants hand. record { whole = refl; settled = settled; wants = wants; hand = hand } in
      record {
        book = b;
        from = refl;
        app = refl;
        state = refl;
        live = refl;
        never = refl;
        life = o;
        era = refl;
        rows = refl;
        begun = open_rows x b o;
        answers = λ pace. open_answers x.exchange x.lawful x.states x.stated x.processor x.table x.cleared x.more x.spot x.frames [] b pace o;
        fits = record {
          epochs = open_epochs x.exchange x.lawful x.states x.stated x.processor x.table x.cleared x.more x.spot x.frames [] b x.forgets x.keeps refl o refl;
          state = open_state x.exchange x.lawful x.states x.stated x.processor x.table x.cleared x.more x.spot x.frames [] b x.forgets x.keeps refl o refl;
        };
        rests = λ settled wants hand. record { live = refl; rests = open_rests x.exchange x.lawful x.states x.stated x.processor x.table x.cleared x.more x.spot x.frames [] b x.forgets x.keeps refl o (idle settled wants hand) };
        done = λ settled wants hand. record {
          rest = record { live = refl; rests = open_rests x.exchange x.lawful x.states x.stated x.processor x.table x.cleared x.more x.spot x.frames [] b x.forgets x.keeps refl o (idle settled wants hand) };
          never = refl;
          each = open_each x.exchange x.lawful x.states x.stated x.processor x.table x.cleared x.more x.spot x.frames [] b x.forgets x.keeps refl o (idle settled wants hand) tt;
        };
      }
