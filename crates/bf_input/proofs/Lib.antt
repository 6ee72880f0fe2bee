mod WholeFiles
