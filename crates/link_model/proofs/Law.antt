-- The link law: each event keeps the agreement, so it holds behind every list of events.
use Rattle.std.proofs.Common.{◌≡◌, ℕ, Option, Some, None, List, [], ◌∷◌, refl}
use Rattle.link_model.specs.Mails.{LinkMail, IsPrefixOf}
use Rattle.link_model.specs.Slave.{Server, node_look, node_take, is_free}
use Rattle.link_model.specs.Link.{Link, Event, happens, run, new_link, held_after, pdi}
use Rattle.link_model.specs.Agree.{Agrees, Follows}
use Rattle.link_model.proofs.Outward.{hold_keeps, serve_keeps, out_keeps}
use Rattle.link_model.proofs.Inward.{in_keeps, look_keeps, offer_keeps, looked-is_noticed}

hold_event : {B S : Type 0} (w : Link B S) (holding : Option (LinkMail B)) (body : B) → w.halves.out.holding ≡ holding → Agrees w → Agrees (held_after w holding body)
hold_event w (Some m) body e a = a
hold_event w None body e a = record { out = hold_keeps w.halves.out w.node.out w.held w.taken body e a.out; inn = a.inn }

pdi_event : {B S : Type 0} (v : Server B S) (w : Link B S) → Agrees w → Agrees (pdi v w)
pdi_event v w a =
    let n = node_look w.node in
    let k = node_take v n in
    record {
      out = serve_keeps w.halves.out w.node.out w.held w.taken (is_free v n) w.node.out.box refl a.out;
      inn = offer_keeps w.halves.inn n.inn w.offered w.accepted n.inn.box n.inn.withdrawn (v.next k.server) refl refl (looked-is_noticed w.node.inn) (look_keeps w.halves.inn w.node.inn w.offered w.accepted a.inn);
    }

-- each event keeps the agreement, from any world
pub happens_keeps : {B S : Type 0} (v : Server B S) (w : Link B S) (e : Event B S) → Agrees w → Agrees (happens v w e)
happens_keeps v w (Event.Hold body) a = hold_event w w.halves.out.holding body refl a
happens_keeps v w (Event.Out fate) a =
    record { out = out_keeps w.halves.out w.node.out w.held w.taken fate w.halves.out.holding w.node.out.box refl refl a.out; inn = a.inn }
happens_keeps v w (Event.In fate) a =
    record { out = a.out; inn = in_keeps w.halves.inn w.node.inn w.offered w.accepted fate w.halves.inn.state w.node.inn.box refl refl a.inn }
happens_keeps v w Event.Pdi a = pdi_event v w a
happens_keeps v w (Event.Change f) a = record { out = a.out; inn = a.inn }

pub run_keeps : {B S : Type 0} (v : Server B S) (w : Link B S) (es : List (Event B S)) → Agrees w → Agrees (run v w es)
run_keeps v w [] a = a
run_keeps v w (e ∷ es) a = run_keeps v (happens v w e) es (happens_keeps v w e a)

nothing_follows : {B : Type 0} (last : ℕ) (before : List B) → Follows last before None
nothing_follows {B} last before = record {
  counted = λ m e. absurd (let none : None ≡ Some m = e in cc);
  same = λ m e r. absurd (cc);
  next = λ m e r. absurd (cc);
}

-- a new link agrees
pub new_agrees : {B S : Type 0} (s : S) → Agrees (new_link {B = B} s)
new_agrees s = record {
  out = record {
    stream = refl;
    last = refl;
    number = refl;
    boxed = nothing_follows 0 [];
    holding = nothing_follows 0 [];
  };
  inn = record {
    side = record {
      stands = λ b e. absurd (cc);
      again = λ e. absurd (cc);
      one = λ m e f. refl;
      newest = refl;
      unread_next = λ m e. absurd (cc);
      withdrawn_next = λ m e. absurd (cc);
    };
    stream = refl;
    number = refl;
    read = nothing_follows 0 [];
    knows = (refl, refl, refl);
    never = λ e. refl;
    clear = λ e m f. absurd (cc);
    there = λ n e m f. absurd (n refl);
  };
}

-- the agreement makes the lists prefixes
pub taken_of_held : {B S : Type 0} (w : Link B S) → Agrees w → IsPrefixOf w.taken w.held
taken_of_held w a = (_, a.out.stream)

pub accepted_of_offered : {B S : Type 0} (w : Link B S) → Agrees w → IsPrefixOf w.accepted w.offered
accepted_of_offered w a = (_, a.inn.stream)
