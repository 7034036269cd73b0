use Rattle.read_back.proofs.Statements.{count_reads, row_reads, cap_reads, header_reads, slot_reads, endpoint_reads}
use Rattle.read_back.proofs.objects_read_back.Goals as goal

pub returns : goal.returns
returns c =
    record { counts = count_reads; rows = row_reads; cap_page_slots = cap_reads; headers = header_reads; gpt_slots = slot_reads; endpoints = endpoint_reads }
