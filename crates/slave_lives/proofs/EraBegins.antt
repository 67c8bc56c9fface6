-- AN EPOCH BEGINS with the slave as its opening leaves it.
use Rattle.std.proofs.Common.{◌≡◌, ◌⊎◌, inl, inr, ℕ, suc, Bool, true, List, [], ◌∷◌, length, Ok, refl, ap, sym, ◌∙◌, subst, arith}
use Rattle.std.specs.Prelude.{Option, None, option_map}
use Rattle.frames_seen.specs.Slaves.{registers_seen}
use Rattle.frames_seen.specs.of_link_model.Link.{new_link}
use Rattle.frames_seen.specs.of_link_model.Slave.{Node}
use Rattle.frames_seen.specs.of_link_mails.Body.{Body, uncounted}
use Rattle.frames_seen.specs.of_segment_model.Slaves.{Slave, Serving, first_waiting}
use Rattle.frames_seen.specs.of_segment_model.Record.{Frame}
use Rattle.frames_seen.specs.of_state_model.Stated.{IsStated}
use Rattle.frames_seen.specs.Shows.{slave_table}
use Rattle.frames_seen.proofs.Tables.{is_table}
use Rattle.frames_seen.specs.of_slave_node.Node as Running
use Rattle.frames_seen.specs.of_life_model.Lives.{Spot}
use Rattle.frames_seen.specs.of_life_model.Eras.{EraIs, planned, opened_slave}
use Rattle.frames_seen.specs.of_state_model.Tasks.{IsTaskPlan}
use Rattle.frames_seen.proofs.of_life_model.Eras as Eras
use Rattle.slave_lives.specs.Opening.{Plan}
use Rattle.slave_lives.specs.Lived.{Behind, IsBehind, table_of, node_seen, OpensEra, opened_era, BegunEra}
use Rattle.slave_lives.proofs.Openings.{allowed}

none_waits : {X : Type 0} (xs : List X) → first_waiting xs ≡ None → xs ≡ []
none_waits [] e = refl
none_waits (x ∷ xs) e = absurd (cc)

module _ {S V A Q R : Type 0} (w : Behind S V A Q R) (is : IsBehind w) (stated : IsStated w.exchange w.states) (tells : (state : ℕ) (v : V) → w.processor.tell state v ≡ w.states.tell state v) where
  -- nothing waits in what is seen of a server where nothing waits in it
  seen_waits : (al : ℕ) (s : S) → w.running.next s ≡ None → (w.sees al s).waiting ≡ []
  seen_waits al s none = none_waits (w.sees al s).waiting (sym ((is.served.seen al).next s) ∙ ap (option_map (λ m. let b : Body = Ok (uncounted m) in b)) none)

  -- what is seen in a state was told it
  pub seen_state : (al : ℕ) (s : S) → w.states.state (w.exchange.app (w.sees al s).server) ≡ al
  seen_state al s =
      let v = (w.sees al s).server in
      let told : w.states.tell al v ≡ v = sym (tells al v) ∙ ap (λ (x : Serving V Body). x.server) (is.served.told al al s) in
      ap (λ x. w.states.state (w.exchange.app x)) (sym told) ∙ ap w.states.state (stated.app al v) ∙ stated.is al (w.exchange.app v)

  -- it is told by being seen in another state
  pub seen_told : (al to : ℕ) (s : S) → w.exchange.app (w.sees to s).server ≡ w.states.told to (w.exchange.app (w.sees al s).server)
  seen_told al to s =
      let v = (w.sees al s).server in
      let told : w.states.tell to v ≡ (w.sees to s).server = sym (tells to v) ∙ ap (λ (x : Serving V Body). x.server) (is.served.told al to s) in
      ap w.exchange.app (sym told) ∙ stated.app to v

  -- the state that is opened isn't Init
  pub not_init : {start : ℕ} → (start ≡ 2) ⊎ ((start ≡ 3) × (w.boot ≡ true)) → start ≡ 1 → ⊥
  not_init (inl two) init = let no : 2 ≡ 1 = sym two ∙ init in cc
  not_init (inr three) init = let no : 3 ≡ 1 = sym three.0 ∙ init in cc

  -- the server of a node as its session has it
  abbrev pub server_seen : Running.Node S → V
  server_seen n = (w.sees (registers_seen n.registers).state n.server).server

  -- THE PLAN of its session: the registers and the server as the opening left them
  pub opens_plan : (p : Plan) (spot : Spot) (n : Running.Node S) → OpensEra w p spot n → IsTaskPlan w.exchange w.states w.processor (table_of w) (planned spot (server_seen n) (registers_seen n.registers) ∷ [])
  opens_plan p spot n o =
      let al = (registers_seen n.registers).state in
      let state : al ≡ p.start = o.opened.state in
      let sits : slave_table w.boot true al al ≡ None = allowed w.boot al al (subst (λ (x : ℕ). (x ≡ 2) ⊎ ((x ≡ 3) × (w.boot ≡ true))) (sym state) o.plan.start) (inr refl) in
      let ready : w.exchange.ready (server_seen n) ≡ true = ap (λ (a : ℕ). w.exchange.ready (w.sees a n.server).server) state ∙ o.ready in
      record {
        plan = record { stations = (tt, tt); ready = (ready, tt) };
        apart = ((tt, tt), tt);
        tells = tells;
        brought = (
          (
            λ q a b c. is.carries q,
            λ answers. record {
              control = λ word e. ap (λ (x : ℕ × Bool). x.0) (o.opened.word word e) ∙ sym state;
              refused = o.opened.refused;
              sits = is_table w.boot true al sits;
              state = seen_state al n.server;
            },
          ),
          tt,
        );
      }

  -- THE SLAVE: both mailboxes empty
  pub opens_slave : (p : Plan) (spot : Spot) (n : Running.Node S) → OpensEra w p spot n → node_seen w n ≡ opened_slave Body Q R spot (server_seen n) (registers_seen n.registers)
  opens_slave p spot n o =
      let r = registers_seen n.registers in
      let none = seen_waits r.state n.server o.waits in
      ap (λ (x : Node Body S). let t : Slave V Body = record { node = record { out = x.out; inn = x.inn; server = w.sees r.state n.server }; registers = r } in t) o.opened.node
      ∙ ap (λ (ms : List Body). let t : Slave V Body = record { node = (new_link {B = Body} (let sv : Serving V Body = record { server = server_seen n; waiting = ms } in sv)).node; registers = r } in t) none

  pub begun : (p : Plan) (spot : Spot) (al0 : ℕ) (cleared : Option ℕ) (opened : ℕ) (fs : List (Frame Body)) (n : Running.Node S) → length fs ≡ suc opened → (cleared ≡ None → p.start ≡ spot.start) → OpensEra w p spot n → BegunEra w p spot al0 cleared opened fs n
  begun p spot al0 cleared opened fs n frames start o =
      let al = (registers_seen n.registers).state in
      let v = server_seen n in
      let r = registers_seen n.registers in
      let state : al ≡ p.start = o.opened.state in
      let knows : w.states.state (w.exchange.app v) ≡ al = seen_state al n.server in
      let here : r.station ≡ spot.station = o.opened.station ∙ o.station in
      let begins = Eras.era_begins {M = Body} {Q = Q} {R = R} w.exchange w.states w.processor (table_of w) spot cleared p.start opened fs v r frames (opens_plan p spot n o) here in
      record {
        lives = record {
          opened = opened;
          server = v;
          registers = r;
          begins = seen_told al0 al n.server;
          up = λ init. not_init o.plan.start (sym (knows ∙ state) ∙ init);
          first = λ none. state ∙ start none;
          in_state = state;
          before = omega (arith, frames);
          is = subst (λ t. EraIs w.exchange w.states w.processor (table_of w) spot (opened_era {Q = Q} {R = R} cleared p.start opened) opened (length fs) fs v r t) (sym (opens_slave p spot n o)) begins;
          opens = o.opened.opens;
          station = here;
          stands = o.opened.stands;
          runs = o.runs;
          boot = o.boot;
        };
        server = ap (λ (a : ℕ). (w.sees a n.server).server) state;
        state = knows ∙ state;
      }
