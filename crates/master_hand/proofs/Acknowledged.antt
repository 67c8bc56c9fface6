-- WHETHER THE LAST MAIL OF A SERVICE IN HAND IS AN ACKNOWLEDGEMENT, by its client: of a read that delivered its file it is.
use Rattle.std.proofs.Common.{◌≡◌, ℕ, ◌+◌, List, [], ◌++◌, map, length, Bool, true, false, Option, Some, None, append-nil, refl, sym, ap, ◌∙◌, arith, lt-ltb, le-ltb}
use Rattle.std.proofs.lemmas.List.{length-map}
use Rattle.std.specs.Prelude.{is_some, is_none, option_map, nat_lt, not, ◌&&◌, ◌||◌}
use Rattle.eoe_client.specs.of_mailbox_mail.declared.outcome.ReplyKind.{ReplyKind}
use Rattle.foe_client.specs.Talk.{is_value}
use Rattle.foe_client.specs.of_exchange_model.Areas.{Areas}
use Rattle.foe_client.specs.of_exchange_model.Exchange.{outnumbers, plain}
use Rattle.foe_client.specs.of_exchange_model.Rows.{Row, ends_unheard}
use Rattle.eoe_client.specs.of_protocol_models.FoeClient as FoeClient
use Rattle.eoe_client.specs.of_protocol_models.FoeMeaning as FoeMeaning
use Rattle.eoe_client.specs.of_protocol_models.FoeModel as FoeModel
use Rattle.foe_client.proofs.of_protocol_models.ReadCounts.{acks_behind, read_counts}
use Rattle.eoe_client.specs.of_protocol_models.EoeClient as EoeClient
use Rattle.master_side.specs.of_link_mails.Body.{Body}
use Rattle.master_side.specs.of_master_duty.Reply.{Reply}
use Rattle.master_hand.specs.Grips.{Going}
use Rattle.master_hand.specs.Hears.{kind_in}
use Rattle.master_hand.specs.Over.{delivers, has_value}
use Rattle.master_hand.specs.Spoken.{Asked, sdo, file, drive, net, passed, acknowledged, emission, ends, hand_speech, heard_file, planned, told_file}
use Rattle.master_hand.specs.Talk.{Talking, IsOf, client_awaits, client_later, is_read, which_of}
use Rattle.master_hand.specs.declared.clients.Which.{Which}

abbrev Goes : Bool → Which → Talking → Option (Row Body Asked Reply) → Type 0
Goes b which c now = Going (hand_speech c.areas) (IsOf which) (client_later which c) (client_awaits which c) b now

-- reads of files alone may end with an acknowledgement
pub read_of : (q : Asked) → acknowledged q ≡ is_read (which_of q)
read_of (sdo q) = refl
read_of (file (FoeMeaning.read name pass)) = refl
read_of (file (FoeMeaning.write name pass bytes)) = refl
read_of (drive q) = refl
read_of (net (EoeClient.packet octets frame)) = refl
read_of (net (EoeClient.set_ip block)) = refl
read_of (net EoeClient.get_ip) = refl
read_of (passed m) = refl

value_more : (kind : ReplyKind) (n : ℕ) → nat_lt n (acks_behind kind + n) ≡ is_value kind
value_more ReplyKind.Value n = lt-ltb n (1 + n) (omega arith)
value_more _ n = le-ltb n (0 + n) (omega arith)

-- more mails than replies, just where the file came
file_unheard : (areas : Areas) (name : List ℕ) (pass : ℕ) (hs : List Body) (found : Option FoeMeaning.Reply) (a : Reply) → FoeClient.ends areas (FoeMeaning.read name pass) (map heard_file hs) ≡ found → option_map (λ r. Some r) found ≡ Some a →
    outnumbers (planned areas (file (FoeMeaning.read name pass)) hs) hs ≡ has_value (kind_in (Some a))
file_unheard areas name pass hs None a is e = absurd (let no : None ≡ Some a = e in cc)
file_unheard areas name pass hs (Some r) a is e =
    let same : Some r ≡ a = (let both : Some (Some r) ≡ Some a = e in cc) in
    let sends = FoeModel.planned areas.out (FoeMeaning.read name pass) (map heard_file hs) in
    ap (λ n. nat_lt (length hs) n) (length-map sends told_file ∙ read_counts areas name pass (map heard_file hs) r.0 r.1 is ∙ ap (λ n. acks_behind r.0 + n) (length-map hs heard_file))
    ∙ value_more r.0 (length hs) ∙ ap (λ z. has_value (kind_in (Some z))) same

read_unheard : (areas : Areas) (q : Asked) (hs : List Body) (a : Reply) → which_of q ≡ Which.ReadFile → ends areas q hs ≡ Some a → outnumbers (planned areas q hs) hs ≡ has_value (kind_in (Some a))
read_unheard areas (file (FoeMeaning.read name pass)) hs a k e = file_unheard areas name pass hs (FoeClient.ends areas (FoeMeaning.read name pass) (map heard_file hs)) a refl e
read_unheard areas (file (FoeMeaning.write name pass bytes)) hs a k e = absurd (let no : Which.WriteFile ≡ Which.ReadFile = k in cc)
read_unheard areas (sdo q) hs a k e = absurd (let no : Which.Coe ≡ Which.ReadFile = k in cc)
read_unheard areas (drive q) hs a k e = absurd (let no : Which.Soe ≡ Which.ReadFile = k in cc)
read_unheard areas (net (EoeClient.packet octets frame)) hs a k e = absurd (let no : Which.Packet ≡ Which.ReadFile = k in cc)
read_unheard areas (net (EoeClient.set_ip block)) hs a k e = absurd (let no : Which.Address ≡ Which.ReadFile = k in cc)
read_unheard areas (net EoeClient.get_ip) hs a k e = absurd (let no : Which.Address ≡ Which.ReadFile = k in cc)
read_unheard areas (passed m) hs a k e = absurd (let no : Which.Passed ≡ Which.ReadFile = k in cc)

pub none_some : {T : Type 0} (o : Option T) → is_none o ≡ not (is_some o)
none_some None = refl
none_some (Some t) = refl

-- OF A SERVICE WITHOUT ITS ANSWER: each read may
pub going_unheard : (which : Which) (c : Talking) (now : Option (Row Body Asked Reply)) (g : Goes false which c now) → ends_unheard (hand_speech c.areas) acknowledged g.row ≡ is_read which
going_unheard which c now g =
    (λ i. (read_of g.row.service ∙ ap is_read g.kind) i && ((none_some g.row.answer ∙ ap not g.answer) i || outnumbers (planned c.areas g.row.service (plain emission g.row.heard)) (plain emission g.row.heard))) ∙ and_true (is_read which)
  where
    and_true : (b : Bool) → (b && true) ≡ b
    and_true true = refl
    and_true false = refl

-- OF ONE WITH ITS ANSWER: that delivered its file
pub answered_unheard : (which : Which) (c : Talking) (now : Option (Row Body Asked Reply)) (g : Goes true which c now) → ends_unheard (hand_speech c.areas) acknowledged g.row ≡ delivers which c
answered_unheard which c now g =
    (λ i. (read_of g.row.service ∙ ap is_read g.kind) i && ((none_some g.row.answer ∙ ap not g.answer) i || outnumbers (planned c.areas g.row.service (plain emission g.row.heard)) (plain emission g.row.heard)))
    ∙ by which refl g.row.answer refl
  where
    by : (w : Which) → which ≡ w → (o : Option (Reply × ℕ)) → g.row.answer ≡ o →
        (is_read w && outnumbers (planned c.areas g.row.service (plain emission g.row.heard)) (plain emission g.row.heard)) ≡ (is_read w && has_value (kind_in (client_awaits which c [])))
    by Which.ReadFile e None is = absurd (let no : false ≡ true = ap is_some (sym is) ∙ g.answer in cc)
    by Which.ReadFile e (Some a) is =
        let kept = g.kept a is in
        let ends_is : ends c.areas g.row.service (plain emission g.row.heard) ≡ Some a.0 = ap (ends c.areas g.row.service) (sym (append-nil (plain emission g.row.heard))) ∙ g.talks.goes [] ∙ kept in
        read_unheard c.areas g.row.service (plain emission g.row.heard) a.0 (g.kind ∙ e) ends_is ∙ ap (λ z. has_value (kind_in z)) (sym kept)
    by Which.Coe e o is = refl
    by Which.WriteFile e o is = refl
    by Which.Soe e o is = refl
    by Which.Address e o is = refl
    by Which.Packet e o is = refl
    by Which.Passed e o is = refl
