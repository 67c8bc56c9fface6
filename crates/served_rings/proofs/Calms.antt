-- No answer of CoE is an emission as the slave tells them apart: a message that isn't an emergency is no emergency in its octets, spelled or not.
use Rattle.std.proofs.Common.{◌≡◌, ℕ, ◌==◌, ◌&&◌, nat_le, nat_lt, Bool, true, false, List, length, take, drop, Result, Ok, Err, refl, sym, subst, if◌then◌else◌}
use Rattle.std.specs.List.{slice_index}
use Rattle.run_work.specs.of_ec_fields.Fields.{number_at}
use Rattle.served_places.specs.of_coe_codec.Fields.{service_in, specifier_in, flag_in, opcode_in}
use Rattle.served_places.specs.of_coe_codec.declared.message.Coe.TheVariants.{Emergency, Expedited, First, Upload, DownloadAnswer, ExpeditedAnswer, FirstAnswer, Segment, SegmentAnswer, UploadSegment, UploadSegmentAnswer, ListRequest, ObjectRequest, EntryRequest, Information, InformationError}
use Rattle.served_places.specs.of_coe_codec.declared.message.CoeFault.TheVariants.{Short, Service, Command, Size}
use Rattle.served_places.specs.of_coe_codec.Reading.{expedited_part, first_fits, segment_fits, segment_part, abort_in, is_information, download_read, upload_answer_read, request_read, answer_read, information_read, coe_read}
use Rattle.run_work.specs.of_protocol_models.CoeMails.{Coe, CoeFault, is_emission}
use Rattle.run_work.specs.of_protocol_models.CoeOctets.{heard}

-- what reads as no emergency
abbrev Calm : List ℕ → Result Coe CoeFault → Type 0
Calm body r = is_emission (heard body r) ≡ false

either : (body : List ℕ) (b : Bool) (r s : Result Coe CoeFault) → Calm body r → Calm body s → Calm body (if b then r else s)
either body true r s p q = p
either body false r s p q = q

module _ (body : List ℕ) where
  downloads : Calm body (download_read body)
  downloads = either body (flag_in body 2) (Ok (Expedited (number_at 2 body 3) (slice_index body 5) (flag_in body 16) (record { items = expedited_part body }))) (if flag_in body 1 then (if first_fits body then (Ok (First (number_at 2 body 3) (slice_index body 5) (flag_in body 16) (number_at 4 body 6) (record { items = drop 10 body }))) else (Err Size)) else (Err Command)) (refl) (either body (flag_in body 1) (if first_fits body then (Ok (First (number_at 2 body 3) (slice_index body 5) (flag_in body 16) (number_at 4 body 6) (record { items = drop 10 body }))) else (Err Size)) (Err Command) (either body (first_fits body) (Ok (First (number_at 2 body 3) (slice_index body 5) (flag_in body 16) (number_at 4 body 6) (record { items = drop 10 body }))) (Err Size) (refl) (refl)) (refl))

  upload_answers : Calm body (upload_answer_read body)
  upload_answers = either body (flag_in body 1) (if flag_in body 2 then (Ok (ExpeditedAnswer (number_at 2 body 3) (slice_index body 5) (record { items = expedited_part body }))) else (if first_fits body then (Ok (FirstAnswer (number_at 2 body 3) (slice_index body 5) (number_at 4 body 6) (record { items = drop 10 body }))) else (Err Size))) (Err Command) (either body (flag_in body 2) (Ok (ExpeditedAnswer (number_at 2 body 3) (slice_index body 5) (record { items = expedited_part body }))) (if first_fits body then (Ok (FirstAnswer (number_at 2 body 3) (slice_index body 5) (number_at 4 body 6) (record { items = drop 10 body }))) else (Err Size)) (refl) (either body (first_fits body) (Ok (FirstAnswer (number_at 2 body 3) (slice_index body 5) (number_at 4 body 6) (record { items = drop 10 body }))) (Err Size) (refl) (refl))) (refl)

  requests : Calm body (request_read body)
  requests = either body (specifier_in body == 0) (if segment_fits body then (Ok (Segment (flag_in body 16) (flag_in body 1) (record { items = segment_part body }))) else (Err Size)) (if specifier_in body == 1 then (download_read body) else (if specifier_in body == 2 then (Ok (Upload (number_at 2 body 3) (slice_index body 5) (flag_in body 16))) else (if specifier_in body == 3 then (Ok (UploadSegment (flag_in body 16))) else (if specifier_in body == 4 then (Ok (abort_in body)) else (Err Command))))) (either body (segment_fits body) (Ok (Segment (flag_in body 16) (flag_in body 1) (record { items = segment_part body }))) (Err Size) (refl) (refl)) (either body (specifier_in body == 1) (download_read body) (if specifier_in body == 2 then (Ok (Upload (number_at 2 body 3) (slice_index body 5) (flag_in body 16))) else (if specifier_in body == 3 then (Ok (UploadSegment (flag_in body 16))) else (if specifier_in body == 4 then (Ok (abort_in body)) else (Err Command)))) (downloads) (either body (specifier_in body == 2) (Ok (Upload (number_at 2 body 3) (slice_index body 5) (flag_in body 16))) (if specifier_in body == 3 then (Ok (UploadSegment (flag_in body 16))) else (if specifier_in body == 4 then (Ok (abort_in body)) else (Err Command))) (refl) (either body (specifier_in body == 3) (Ok (UploadSegment (flag_in body 16))) (if specifier_in body == 4 then (Ok (abort_in body)) else (Err Command)) (refl) (either body (specifier_in body == 4) (Ok (abort_in body)) (Err Command) (refl) (refl)))))

  answers : Calm body (answer_read body)
  answers = either body (specifier_in body == 0) (if segment_fits body then (Ok (UploadSegmentAnswer (flag_in body 16) (flag_in body 1) (record { items = segment_part body }))) else (Err Size)) (if specifier_in body == 1 then (Ok (SegmentAnswer (flag_in body 16))) else (if specifier_in body == 2 then (upload_answer_read body) else (if specifier_in body == 3 then (Ok (DownloadAnswer (number_at 2 body 3) (slice_index body 5))) else (if specifier_in body == 4 then (Ok (abort_in body)) else (Err Command))))) (either body (segment_fits body) (Ok (UploadSegmentAnswer (flag_in body 16) (flag_in body 1) (record { items = segment_part body }))) (Err Size) (refl) (refl)) (either body (specifier_in body == 1) (Ok (SegmentAnswer (flag_in body 16))) (if specifier_in body == 2 then (upload_answer_read body) else (if specifier_in body == 3 then (Ok (DownloadAnswer (number_at 2 body 3) (slice_index body 5))) else (if specifier_in body == 4 then (Ok (abort_in body)) else (Err Command)))) (refl) (either body (specifier_in body == 2) (upload_answer_read body) (if specifier_in body == 3 then (Ok (DownloadAnswer (number_at 2 body 3) (slice_index body 5))) else (if specifier_in body == 4 then (Ok (abort_in body)) else (Err Command))) (upload_answers) (either body (specifier_in body == 3) (Ok (DownloadAnswer (number_at 2 body 3) (slice_index body 5))) (if specifier_in body == 4 then (Ok (abort_in body)) else (Err Command)) (refl) (either body (specifier_in body == 4) (Ok (abort_in body)) (Err Command) (refl) (refl)))))

  informations : Calm body (information_read body)
  informations = either body (opcode_in body == 1 && nat_le 8 (length body)) (Ok (ListRequest (number_at 2 body 6))) (if opcode_in body == 3 && nat_le 8 (length body) then (Ok (ObjectRequest (number_at 2 body 6))) else (if opcode_in body == 5 && nat_le 10 (length body) then (Ok (EntryRequest (number_at 2 body 6) (slice_index body 8) (slice_index body 9))) else (if opcode_in body == 7 && nat_le 10 (length body) then (Ok (InformationError (number_at 4 body 6))) else (if is_information (opcode_in body) then (Ok (Information (opcode_in body) (flag_in body 128) (number_at 2 body 4) (record { items = drop 6 body }))) else (Err Command))))) (refl) (either body (opcode_in body == 3 && nat_le 8 (length body)) (Ok (ObjectRequest (number_at 2 body 6))) (if opcode_in body == 5 && nat_le 10 (length body) then (Ok (EntryRequest (number_at 2 body 6) (slice_index body 8) (slice_index body 9))) else (if opcode_in body == 7 && nat_le 10 (length body) then (Ok (InformationError (number_at 4 body 6))) else (if is_information (opcode_in body) then (Ok (Information (opcode_in body) (flag_in body 128) (number_at 2 body 4) (record { items = drop 6 body }))) else (Err Command)))) (refl) (either body (opcode_in body == 5 && nat_le 10 (length body)) (Ok (EntryRequest (number_at 2 body 6) (slice_index body 8) (slice_index body 9))) (if opcode_in body == 7 && nat_le 10 (length body) then (Ok (InformationError (number_at 4 body 6))) else (if is_information (opcode_in body) then (Ok (Information (opcode_in body) (flag_in body 128) (number_at 2 body 4) (record { items = drop 6 body }))) else (Err Command))) (refl) (either body (opcode_in body == 7 && nat_le 10 (length body)) (Ok (InformationError (number_at 4 body 6))) (if is_information (opcode_in body) then (Ok (Information (opcode_in body) (flag_in body 128) (number_at 2 body 4) (record { items = drop 6 body }))) else (Err Command)) (refl) (either body (is_information (opcode_in body)) (Ok (Information (opcode_in body) (flag_in body 128) (number_at 2 body 4) (record { items = drop 6 body }))) (Err Command) (refl) (refl)))))

  -- so no body of another service does
  pub calm_read : (service_in body == 1) ≡ false → Calm body (coe_read body)
  calm_read e = either body (nat_lt (length body) 2) (Err Short) (if service_in body == 1 then (if nat_lt (length body) 10 then (Err Short) else (Ok (Emergency (record { items = take 8 (drop 2 body) })))) else (if service_in body == 2 then (if nat_lt (length body) 10 then (Err Short) else (request_read body)) else (if service_in body == 3 then (if nat_lt (length body) 10 then (Err Short) else (answer_read body)) else (if service_in body == 8 then (if nat_lt (length body) 6 then (Err Short) else (information_read body)) else (Err Service))))) refl (subst (λ b. Calm body (if b then (if nat_lt (length body) 10 then (Err Short) else (Ok (Emergency (record { items = take 8 (drop 2 body) })))) else (if service_in body == 2 then (if nat_lt (length body) 10 then (Err Short) else (request_read body)) else (if service_in body == 3 then (if nat_lt (length body) 10 then (Err Short) else (answer_read body)) else (if service_in body == 8 then (if nat_lt (length body) 6 then (Err Short) else (information_read body)) else (Err Service)))))) (sym e) (either body (service_in body == 2) (if nat_lt (length body) 10 then (Err Short) else (request_read body)) (if service_in body == 3 then (if nat_lt (length body) 10 then (Err Short) else (answer_read body)) else (if service_in body == 8 then (if nat_lt (length body) 6 then (Err Short) else (information_read body)) else (Err Service))) (either body (nat_lt (length body) 10) (Err Short) (request_read body) (refl) (requests)) (either body (service_in body == 3) (if nat_lt (length body) 10 then (Err Short) else (answer_read body)) (if service_in body == 8 then (if nat_lt (length body) 6 then (Err Short) else (information_read body)) else (Err Service)) (either body (nat_lt (length body) 10) (Err Short) (answer_read body) (refl) (answers)) (either body (service_in body == 8) (if nat_lt (length body) 6 then (Err Short) else (information_read body)) (Err Service) (either body (nat_lt (length body) 6) (Err Short) (information_read body) (refl) (informations)) (refl)))))
