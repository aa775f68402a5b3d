-- Any two answers that meet a public function's contract are equal, and so is what they leave in a lent buffer, said of the generated contracts.
use mathlib.Core.Path.{refl, ◌∙◌, sym}
use Rattle.laws.specs.Unique.{Unique}
use Rattle.page.proofs.Papers.{check_is, page_is, write_is}
use Rattle.page.specs.contracts.ReadError.number as read-number
use Rattle.page.proofs.ReadError.number.Reads as read-number-reads
use Rattle.page.specs.contracts.WriteError.number as write-number
use Rattle.page.proofs.WriteError.number.Reads as write-number-reads
use Rattle.page.specs.contracts.lawful.check_cells as check-cells
use Rattle.page.proofs.lawful.check_cells.Reads as check-cells-reads
use Rattle.page.specs.contracts.lawful.header_fits as header_fits_law
use Rattle.page.proofs.lawful.header_fits.Reads as header-fits-reads
use Rattle.page.specs.contracts.reading.page_or_zeros as or-zeros
use Rattle.page.proofs.reading.page_or_zeros.Reads as or-zeros-reads
use Rattle.page.specs.contracts.reading.read_record as read-record
use Rattle.page.proofs.reading.read_record.Reads as read-record-reads
use Rattle.page.specs.contracts.writing.write_parts as write-parts
use Rattle.page.proofs.writing.write_parts.Reads as write-parts-reads
use Rattle.page.specs.contracts.writing.write_record as write-record
use Rattle.page.proofs.writing.write_record.Reads as write-record-reads

pub header_fits_unique : Unique header_fits_law.ended header-fits-reads.Post
header_fits_unique κs a r r' ws ws' p q = (p ∙ sym q, refl)

pub check_cells_unique : Unique check-cells.ended check-cells-reads.Post
check_cells_unique κs a r r' ws ws' p q = (check_is r r' (p ∙ sym q), refl)

pub write_parts_unique : Unique write-parts.ended write-parts-reads.Post
write_parts_unique κs a r r' ws ws' p q = (write_is r r' (p.0 ∙ sym q.0), λ i. (tt, (tt, (tt, (tt, (tt, ((p.1 ∙ sym q.1) i, tt)))))))

pub write_record_unique : Unique write-record.ended write-record-reads.Post
write_record_unique κs a r r' ws ws' p q = (write_is r r' (p.0 ∙ sym q.0), λ i. (tt, ((p.1 ∙ sym q.1) i, tt)))

pub read_record_unique : Unique read-record.ended read-record-reads.Post
read_record_unique κs a r r' ws ws' p q = (page_is r r' (p.0 ∙ sym q.0) (p.1 ∙ sym q.1), refl)

pub read_number_unique : Unique read-number.ended read-number-reads.Post
read_number_unique κs a r r' ws ws' p q = (p ∙ sym q, refl)

pub write_number_unique : Unique write-number.ended write-number-reads.Post
write_number_unique κs a r r' ws ws' p q = (p ∙ sym q, refl)

pub page_or_zeros_unique : Unique or-zeros.ended or-zeros-reads.Post
page_or_zeros_unique κs a r r' ws ws' p q = (p ∙ sym q, refl)
