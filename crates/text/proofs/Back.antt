-- The theorems of specs/Back.antt.
use Rattle.text.specs.Back.{ShortestReadsBack, PaddedReadsBack, HundredthsReadBack}
use Rattle.text.proofs.Digits.{read_shortest, read_padded}
use Rattle.text.proofs.Decimals.{read_hundredths_lem}

pub shortest_reads_back : ShortestReadsBack
shortest_reads_back = read_shortest

pub padded_reads_back : PaddedReadsBack
padded_reads_back = read_padded

pub hundredths_read_back : HundredthsReadBack
hundredths_read_back = read_hundredths_lem
