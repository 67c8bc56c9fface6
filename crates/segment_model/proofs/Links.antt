-- The link of a slave with the server of an exchange: its agreement, and that the server is the fold over the mails taken.
use Rattle.std.proofs.Common.{◌≡◌, Option, Some, None, List, [], ◌∷◌, ◌++◌, refl, ap, sym, ◌∙◌, append_assoc, append-nil}
use Rattle.exchange_model.specs.Prefix.{IsPrefixOf}
use Rattle.exchange_model.specs.Exchange.{Exchange, after, given}
use Rattle.exchange_model.proofs.Words.{after-append, given-append}
use Rattle.link_model.specs.Mails.{LinkMail}
use Rattle.link_model.specs.Slave.{Node, all_taken, all_given, mail_offered, node_look, node_take, node_takes, node_offers, node_serve}
use Rattle.link_model.specs.Link.{Link, Fate, Event, run, pdi, out_sent, in_sent, new_link}
use Rattle.link_model.specs.Frames.{Ask, Gram, event_of, events_of}
use Rattle.link_model.specs.Agree.{Agrees}
use Rattle.link_model.proofs.Law.{happens_keeps, run_keeps, new_agrees, taken_of_held, accepted_of_offered}
use Rattle.segment_model.specs.Slaves.{Serving, serving, first_waiting}

module _ {V A M Q R : Type 0} (x : Exchange V A M Q R) where
  -- the server is the fold over the mails taken, and what it gave was offered or waits
  pub record Serves (v : V) (w : Link M (Serving V M)) : Type 0 where
    pub server : w.node.server.server ≡ after x.serve v w.taken
    pub gave : w.offered ++ w.node.server.waiting ≡ given x.serve v w.taken

  pub record Sound (v : V) (w : Link M (Serving V M)) : Type 0 where
    pub agrees : Agrees w
    pub serves : Serves v w

  taken_server : (s : Serving V M) (ms : List M) → (all_taken (serving x) s ms).server ≡ after x.serve s.server ms
  taken_server s [] = refl
  taken_server s (m ∷ ms) = taken_server (record { server = (x.serve s.server m).0; waiting = s.waiting ++ (x.serve s.server m).1 }) ms

  taken_waiting : (s : Serving V M) (ms : List M) → (all_taken (serving x) s ms).waiting ≡ s.waiting ++ given x.serve s.server ms
  taken_waiting s [] = sym (append-nil s.waiting)
  taken_waiting s (m ∷ ms) =
      taken_waiting (record { server = (x.serve s.server m).0; waiting = s.waiting ++ (x.serve s.server m).1 }) ms
      ∙ append_assoc s.waiting (x.serve s.server m).1 (given x.serve (x.serve s.server m).0 ms)

  given_server : (s : Serving V M) (ms : List M) → (all_given (serving x) s ms).server ≡ s.server
  given_server s [] = refl
  given_server s (m ∷ ms) = given_server ((serving x).rest s) ms

  -- what is offered new is the next of the mails that wait
  offered_next : (v : V) (box withdrawn : Option (LinkMail M)) (ws : List M) → mail_offered box withdrawn (first_waiting ws) ++ (all_given (serving x) (record { server = v; waiting = ws }) (mail_offered box withdrawn (first_waiting ws))).waiting ≡ ws
  offered_next v (Some b) withdrawn ws = refl
  offered_next v None (Some m) ws = refl
  offered_next v None None [] = refl
  offered_next v None None (w ∷ ws) = refl

  -- the server behind steps 4 and 5, and what it gave
  pub served_server : (n : Node M (Serving V M)) → (node_serve (serving x) n).server.server ≡ after x.serve n.server.server (node_takes (serving x) n)
  served_server n =
      let k = node_take (serving x) n in
      given_server k.server (node_offers (serving x) k) ∙ taken_server n.server (node_takes (serving x) n)

  pub served_gives : (offered : List M) (n : Node M (Serving V M)) →
      (offered ++ node_offers (serving x) (node_take (serving x) n)) ++ (node_serve (serving x) n).server.waiting ≡ (offered ++ n.server.waiting) ++ given x.serve n.server.server (node_takes (serving x) n)
  served_gives offered n =
      let k = node_take (serving x) n in
      append_assoc offered (node_offers (serving x) k) _
      ∙ ap (λ l. offered ++ l) (offered_next k.server.server k.inn.box k.inn.withdrawn k.server.waiting ∙ taken_waiting n.server (node_takes (serving x) n))
      ∙ sym (append_assoc offered n.server.waiting _)

  step_serves : (v : V) (w : Link M (Serving V M)) → Serves v w → Serves v (pdi (serving x) w)
  step_serves v w p =
      let n = node_look w.node in
      let takes = node_takes (serving x) n in
      record {
        server = served_server n ∙ ap (λ s. after x.serve s takes) p.server ∙ sym (after-append x.serve v w.taken takes);
        gave =
            served_gives w.offered n
            ∙ ap (λ l. l ++ given x.serve w.node.server.server takes) p.gave
            ∙ ap (λ s. given x.serve v w.taken ++ given x.serve s takes) p.server
            ∙ sym (given-append x.serve v w.taken takes);
      }

  pub step_sound : (v : V) (w : Link M (Serving V M)) → Sound v w → Sound v (pdi (serving x) w)
  step_sound v w s = record { agrees = happens_keeps (serving x) w Event.Pdi s.agrees; serves = step_serves v w s.serves }

  one_serves : (v : V) (fate : Fate) (ask : Ask M) (es : List (Event M (Serving V M))) → ((w : Link M (Serving V M)) → Serves v w → Serves v (run (serving x) w es)) →
      (w : Link M (Serving V M)) → Serves v w → Serves v (run (serving x) w (event_of fate ask es))
  one_serves v fate (Ask.WriteMail m) es more w p = more (out_sent w fate) (record { server = p.server; gave = p.gave })
  one_serves v fate Ask.ReadMail es more w p = more (in_sent w fate) (record { server = p.server; gave = p.gave })
  one_serves v fate (Ask.WriteRequest bit) es more w p = more (in_sent w fate) (record { server = p.server; gave = p.gave })
  one_serves v fate Ask.ReadAcknowledge es more w p = more (in_sent w fate) (record { server = p.server; gave = p.gave })
  one_serves v fate Ask.Other es more w p = more w p

  frame_serves : (v : V) (fate : Fate) (gs : List (Gram M)) (w : Link M (Serving V M)) → Serves v w → Serves v (run (serving x) w (events_of fate gs))
  frame_serves v fate [] w p = p
  frame_serves v fate (g ∷ gs) w p = one_serves v fate g.ask (events_of fate gs) (λ k q. frame_serves v fate gs k q) w p

  -- the datagrams of a frame keep both
  pub frame_sound : (v : V) (fate : Fate) (gs : List (Gram M)) (w : Link M (Serving V M)) → Sound v w → Sound v (run (serving x) w (events_of fate gs))
  frame_sound v fate gs w s = record { agrees = run_keeps (serving x) w (events_of fate gs) s.agrees; serves = frame_serves v fate gs w s.serves }

  pub new_sound : (v : V) → Sound v (new_link (record { server = v; waiting = [] }))
  new_sound v = record { agrees = new_agrees (record { server = v; waiting = [] }); serves = record { server = refl; gave = refl } }

  -- taken are the first mails held, and accepted the first mails that the server gave for those
  pub in_order : (v : V) (w : Link M (Serving V M)) → Sound v w → IsPrefixOf w.taken w.held
  in_order v w s = let p = taken_of_held w s.agrees in (p.0, sym p.1)

  pub hears_given : (v : V) (w : Link M (Serving V M)) → Sound v w → IsPrefixOf w.accepted (given x.serve v w.taken)
  hears_given v w s =
      let p = accepted_of_offered w s.agrees in
      (p.0 ++ w.node.server.waiting, sym (append_assoc w.accepted p.0 w.node.server.waiting) ∙ ap (λ l. l ++ w.node.server.waiting) (sym p.1) ∙ s.serves.gave)
