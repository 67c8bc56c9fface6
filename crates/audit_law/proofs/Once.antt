-- One opening: what was taken and accepted of what was told.
use Rattle.std.proofs.Common.{◌≡◌, ℕ, ◌≤◌, Bool, true, false, List, [], ◌∷◌, ◌++◌, map, length, refl, sym, ap, ◌∙◌, subst, append_assoc, append-nil, Option, Some, None, if◌then◌else◌, arith, length-append}
use Rattle.std.proofs.lemmas.List.{append_cancel_right}
use Rattle.capture_audit.specs.of_mailbox_mail.declared.mail.Mail.{Mail}
use Rattle.mailbox_law.specs.of_link_model.Mails.{LinkMail, is_repeat, news, seen, bodies}
use Rattle.mailbox_law.specs.of_link_model.Slave.{node_look, is_free}
use Rattle.mailbox_law.specs.of_link_model.Link.{Link, happens, run, held_after, out_side_after, in_news}
use Rattle.mailbox_law.specs.of_link_model.Agree.{Agrees, last_met_of, unread}
use Rattle.mailbox_law.proofs.of_link_model.Law.{happens_keeps, run_keeps, new_agrees}
use Rattle.mailbox_law.specs.of_link_mails.Body.{Body}
use Rattle.mailbox_law.specs.Waiting.{keeper, bodies_of}
use Rattle.mailbox_law.specs.Steps.{event_of, fate_of, first_link, given, link_behind}
use Rattle.mailbox_law.specs.declared.steps.LinkFate.{LinkFate}
use Rattle.mailbox_law.specs.declared.steps.LinkStep.{LinkStep}
use Rattle.mailbox_law.specs.declared.steps.LinkStep.TheVariants.{Hold, Give, Out, In, Pdi}
use Rattle.mailbox_law.proofs.Running.{behind_given}
use Rattle.capture_audit.specs.declared.access.MailAccess.{MailAccess}
use Rattle.capture_audit.specs.declared.access.MailAccess.TheVariants.{WriteMail}
use Rattle.capture_audit.specs.declared.link.Link.{Link as AuditLink}
use Rattle.capture_audit.specs.Rules.{link_rule, link_on, mails_sent, mails_accepted, new_link}
use Rattle.audit_law.specs.Told.{Told, Obeys, sent_by, accepted_by, link_behind as told_behind}
use Rattle.audit_law.specs.Possible.{access_by, SendsMail, SendsInward, Possible, IsOnce}
use Rattle.audit_law.proofs.Tracks.{state_of, TracksOut, Tracks, bodies-append, seen_served, side_out, hold_out, out_tracks, write_inward, in_tracks}

-- ---- steps that nobody saw

hold_by : (a : AuditLink) (w : Link Body (List Body)) (sent accepted : List Mail) (body : Body) (holding : Option (LinkMail Body)) → w.halves.out.holding ≡ holding → Agrees w → Tracks a w sent accepted → Tracks a (held_after w holding body) sent accepted
hold_by a w sent accepted body (Some lm) is g t = t
hold_by a w sent accepted body None is g t = record {
  out = hold_out a.waits a.written w.halves.out w.node.out w.held sent body is g.out.last t.out;
  last = t.last;
  state = t.state;
  bit = t.bit;
  accepted_are = t.accepted_are;
}

pdi_tracks : (a : AuditLink) (w : Link Body (List Body)) (sent accepted : List Mail) → Tracks a w sent accepted → Tracks a (happens keeper w (event_of Pdi)) sent accepted
pdi_tracks a w sent accepted t =
    let n = node_look w.node in
    record {
      out = side_out a.waits a.written w.halves.out.holding w.node.out _ w.held sent (seen_served w.node.out w.node.out.box (is_free keeper n) refl) t.out;
      last = t.last;
      state = t.state;
      bit = t.bit;
      accepted_are = t.accepted_are;
    }

give_tracks : (a : AuditLink) (w : Link Body (List Body)) (sent accepted : List Mail) (m : Mail) → Tracks a w sent accepted → Tracks a (happens keeper w (event_of (Give m))) sent accepted
give_tracks a w sent accepted m t = record { out = t.out; last = t.last; state = t.state; bit = t.bit; accepted_are = t.accepted_are }

-- ---- told accesses

sent_tracks : (a : AuditLink) (w : Link Body (List Body)) (sent accepted : List Mail) (fate : LinkFate) (t : Told) → link_rule a t.access t.sent ≡ None → SendsMail w fate t → Tracks a w sent accepted
    → Tracks (link_on a t.access t.sent) (happens keeper w (event_of (Out fate))) (sent ++ mails_sent a t.access t.sent) (accepted ++ mails_accepted a t.access t.sent)
sent_tracks a w sent accepted fate t none sends tracks =
    let rule : link_rule a WriteMail t.sent ≡ None = ap (λ (x : MailAccess). link_rule a x t.sent) (sym sends.access) ∙ none in
    let same = write_inward a t.sent in
    rw sends.access (record {
      out = out_tracks a t.sent fate w.halves.out w.node.out (out_side_after w.node.out w.halves.out.holding w.node.out.box (fate_of fate)) w.node.out.box w.held sent sends.mail rule sends.reads sends.holds sends.returns tracks.out;
      last = same.0 ∙ tracks.last;
      state = ap state_of same.1 ∙ tracks.state;
      bit = same.2 ∙ tracks.bit;
      accepted_are = tracks.accepted_are ∙ ap bodies_of (sym (append-nil accepted));
    })

inward_tracks : (in_len : ℕ) (a : AuditLink) (w : Link Body (List Body)) (sent accepted : List Mail) (fate : LinkFate) (t : Told) → link_rule a t.access t.sent ≡ None → SendsInward in_len w fate t → Tracks a w sent accepted
    → Tracks (link_on a t.access t.sent) (happens keeper w (event_of (In fate))) (sent ++ mails_sent a t.access t.sent) (accepted ++ mails_accepted a t.access t.sent)
inward_tracks in_len a w sent accepted fate t none sends tracks =
    let h = w.halves.inn in
    let rule : link_rule a (access_by h.state) t.sent ≡ None = ap (λ (x : MailAccess). link_rule a x t.sent) (sym sends.access) ∙ none in
    let step = in_tracks h.state a t.sent fate h w.node.inn.box w.node.inn.acknowledge rule sends.returns (record { last = tracks.last; state = tracks.state; bit = tracks.bit }) in
    let out : TracksOut (link_on a (access_by h.state) t.sent).waits (link_on a (access_by h.state) t.sent).written w.halves.out.holding w.node.out w.held (sent ++ mails_sent a (access_by h.state) t.sent) =
    subst (λ (xs : List Mail). TracksOut (link_on a (access_by h.state) t.sent).waits (link_on a (access_by h.state) t.sent).written w.halves.out.holding w.node.out w.held (sent ++ xs)) (sym step.nothing)
    (subst (λ (xs : List Mail). TracksOut (link_on a (access_by h.state) t.sent).waits (link_on a (access_by h.state) t.sent).written w.halves.out.holding w.node.out w.held xs) (sym (append-nil sent))
    (subst (λ (b : Bool). TracksOut b (link_on a (access_by h.state) t.sent).written w.halves.out.holding w.node.out w.held sent) (sym step.out.0)
    (subst (λ (x : List ℕ). TracksOut a.waits x w.halves.out.holding w.node.out w.held sent) (sym step.out.1) tracks.out))) in
    rw sends.access (record {
      out = out;
      last = step.half.last;
      state = step.half.state;
      bit = step.half.bit;
      accepted_are = ap (λ (xs : List Body). xs ++ in_news h h.state w.node.inn.box (fate_of fate)) tracks.accepted_are ∙ ap (λ (xs : List Body). bodies_of accepted ++ xs) (sym step.mails) ∙ sym (bodies-append accepted (mails_accepted a (access_by h.state) t.sent));
    })

-- ---- all steps

further : (a b : AuditLink) (w : Link Body (List Body)) (sent more rest accepted news_in after : List Mail) → Tracks b w ((sent ++ more) ++ rest) ((accepted ++ news_in) ++ after) → Tracks b w (sent ++ (more ++ rest)) (accepted ++ (news_in ++ after))
further a b w sent more rest accepted news_in after t =
    subst (λ (xs : List Mail). Tracks b w xs (accepted ++ (news_in ++ after))) (append_assoc sent more rest) (subst (λ (xs : List Mail). Tracks b w ((sent ++ more) ++ rest) xs) (append_assoc accepted news_in after) t)

tracks_run : (out_len in_len : ℕ) (steps : List LinkStep) (ts : List Told) (a : AuditLink) (w : Link Body (List Body)) (sent accepted : List Mail) → Agrees w → Tracks a w sent accepted → Obeys a ts → Possible out_len in_len w steps ts
    → Tracks (told_behind a ts) (run keeper w (map event_of steps)) (sent ++ sent_by a ts) (accepted ++ accepted_by a ts)
tracks_run out_len in_len [] ts a w sent accepted g t o p = rw p (rw (append-nil sent, append-nil accepted) t)
tracks_run out_len in_len (Hold m ∷ ss) ts a w sent accepted g t o p =
    tracks_run out_len in_len ss ts a (happens keeper w (event_of (Hold m))) sent accepted (happens_keeps keeper w (event_of (Hold m)) g) (hold_by a w sent accepted _ w.halves.out.holding refl g t) o p.1
tracks_run out_len in_len (Give m ∷ ss) ts a w sent accepted g t o p =
    tracks_run out_len in_len ss ts a (happens keeper w (event_of (Give m))) sent accepted (happens_keeps keeper w (event_of (Give m)) g) (give_tracks a w sent accepted m t) o p.1
tracks_run out_len in_len (Pdi ∷ ss) ts a w sent accepted g t o p =
    tracks_run out_len in_len ss ts a (happens keeper w (event_of Pdi)) sent accepted (happens_keeps keeper w (event_of Pdi) g) (pdi_tracks a w sent accepted t) o p
tracks_run out_len in_len (Out fate ∷ ss) [] a w sent accepted g t o p = absurd p
tracks_run out_len in_len (Out fate ∷ ss) (x ∷ ts) a w sent accepted g t o p =
    further a _ _ sent (mails_sent a x.access x.sent) (sent_by (link_on a x.access x.sent) ts) accepted (mails_accepted a x.access x.sent) (accepted_by (link_on a x.access x.sent) ts)
    (tracks_run out_len in_len ss ts (link_on a x.access x.sent) (happens keeper w (event_of (Out fate))) (sent ++ mails_sent a x.access x.sent) (accepted ++ mails_accepted a x.access x.sent) (happens_keeps keeper w (event_of (Out fate)) g) (sent_tracks a w sent accepted fate x o.0 p.0 t) o.1 p.1)
tracks_run out_len in_len (In fate ∷ ss) [] a w sent accepted g t o p = absurd p
tracks_run out_len in_len (In fate ∷ ss) (x ∷ ts) a w sent accepted g t o p =
    further a _ _ sent (mails_sent a x.access x.sent) (sent_by (link_on a x.access x.sent) ts) accepted (mails_accepted a x.access x.sent) (accepted_by (link_on a x.access x.sent) ts)
    (tracks_run out_len in_len ss ts (link_on a x.access x.sent) (happens keeper w (event_of (In fate))) (sent ++ mails_sent a x.access x.sent) (accepted ++ mails_accepted a x.access x.sent) (happens_keeps keeper w (event_of (In fate)) g) (inward_tracks in_len a w sent accepted fate x o.0 p.0 t) o.1 p.1)

-- ---- what was taken

news_if : (b : Bool) (x : Body) → length (if b then [] else x ∷ []) ≤ 1
news_if true x = omega arith
news_if false x = omega arith

news_few : (last : ℕ) (m : Option (LinkMail Body)) → length (news last m) ≤ 1
news_few last None = omega arith
news_few last (Some m) = news_if (is_repeat last m) m.body

-- the mails that were sent are those taken, and at most two more
record IsTaken (taken : List Body) (sent : List Mail) : Type 0 where
  pub missing : List Body
  pub all : bodies_of sent ≡ taken ++ missing
  pub few : length missing ≤ 2

taken_held : (w : Link Body (List Body)) (sent : List Mail) → Agrees w → w.held ≡ bodies_of sent → IsTaken w.taken sent
taken_held w sent g all =
    let side = w.node.out in
    let one = news side.last_taken side.box in
    let two = news (seen side.last_taken side.box) w.halves.out.holding in
    record { missing = one ++ two; all = sym all ∙ g.out.stream; few = omega (arith, length-append one two, news_few side.last_taken side.box, news_few (seen side.last_taken side.box) w.halves.out.holding) }

taken_by : (waits : Bool) (written : List ℕ) (holding : Option (LinkMail Body)) (w : Link Body (List Body)) (sent : List Mail) → w.halves.out.holding ≡ holding → Agrees w → TracksOut waits written holding w.node.out w.held sent → IsTaken w.taken sent
taken_by true written holding w sent is g (m, holds, reads, all) = taken_held w sent g all
taken_by false written None w sent is g all = taken_held w sent g all
taken_by false written (Some lm) w sent is g (all, fresh) =
    let side = w.node.out in
    let one = news side.last_taken side.box in
    let last : news (seen side.last_taken side.box) w.halves.out.holding ≡ lm.body ∷ [] = ap (news (seen side.last_taken side.box)) is ∙ ap (λ (b : Bool). if b then [] else lm.body ∷ []) fresh in
    let both : bodies_of sent ++ lm.body ∷ [] ≡ (w.taken ++ one) ++ lm.body ∷ [] =
    sym all ∙ g.out.stream ∙ ap (λ (xs : List Body). w.taken ++ (one ++ xs)) last ∙ sym (append_assoc w.taken one (lm.body ∷ [])) in
    record { missing = one; all = append_cancel_right (bodies_of sent) (w.taken ++ one) (lm.body ∷ []) both; few = omega (arith, news_few side.last_taken side.box) }

new_tracks : (out_len in_len : ℕ) → Tracks (new_link out_len in_len) first_link [] []
new_tracks out_len in_len = record { out = refl; last = refl; state = refl; bit = refl; accepted_are = refl }

pub once : (out_len in_len : ℕ) (ts : List Told) (steps : List LinkStep) → Obeys (new_link out_len in_len) ts → Possible out_len in_len first_link steps ts
    → IsOnce (link_behind steps) (given steps) (sent_by (new_link out_len in_len) ts) (accepted_by (new_link out_len in_len) ts)
once out_len in_len ts steps o p =
    let w = link_behind steps in
    let a = new_link out_len in_len in
    let g = run_keeps keeper first_link (map event_of steps) (new_agrees []) in
    let t = tracks_run out_len in_len steps ts a first_link [] [] (new_agrees []) (new_tracks out_len in_len) o p in
    let taken = taken_by (told_behind a ts).waits (told_behind a ts).written w.halves.out.holding w (sent_by a ts) refl g t.out in
    let behind = news w.halves.inn.last (last_met_of w.node.inn) ++ (bodies (unread w.node.inn.again w.node.inn.box) ++ bodies w.node.inn.withdrawn) in
    let all : given steps ≡ bodies_of (accepted_by a ts) ++ (behind ++ w.node.server) =
    sym (behind_given steps) ∙ ap (λ (xs : List Body). xs ++ w.node.server) g.inn.stream ∙ append_assoc w.accepted behind w.node.server ∙ ap (λ (xs : List Body). xs ++ (behind ++ w.node.server)) t.accepted_are in
    record { missing = taken.missing; taken = taken.all; few = taken.few; accepted_in_order = (behind ++ w.node.server, all); accepted_are = t.accepted_are }
